use Rattle.std.proofs.Common.{◌≡◌, ◌≤◌, [], length, ◌*◌, pos, ◌-ℤ◌, sym, ap, ◌∙◌, subst, arith, w32, of_z, to_z, SFits, rules}
use Rattle.std.specs.Float.Ieee.{size}
use Rattle.batch.specs.Term.{regular, whole_units}
use Rattle.answers.specs.Published.{limbs_of}
use Rattle.forms.specs.Forms.{term, spelling}
use Rattle.line_writer.specs.Wrote.{Wrote}
use Rattle.limb_batch.specs.Records.{limbs_for}
use Rattle.term_writer.specs.Lines.{text_of_term, significand_of}
use Rattle.term_writer.proofs.Lookups.{lookup_found, regular_there}
use Rattle.term_writer.proofs.Significands.{units_from_lowest}
use Rattle.term_writer.proofs.Lengths.{length-term}
use Rattle.term_writer.proofs.writing.write_regular.Goals as goal

pub write_line-requires : goal.write_line-requires
write_line-requires g c =
    let exponent : SFits w32 (to_z w32 (of_z w32 c.of-extent.result.exponent)) = search rules in
    let few : length c.read_limbs.new.limbs ≤ 128 = omega (arith, c.read_limbs.ensures.many, c.split_at_mut-limbs.ensures, c.limb_count.ensures, c.of-extent.result.few_digits) in
    let short = length-term c.args.negative (to_z w32 (of_z w32 c.of-extent.result.exponent)) c.from.result c.read_limbs.new.limbs exponent (omega (arith, c.from.ensures, c.of-extent.result.few_digits)) few in
    omega (arith, short, c.requires.room)

pub returns : goal.returns
returns g c =
    let ts = g.B.Batch.terms c.args.batch.now in
    let r = regular_there ts c.args.i c.args.negative (g.B.Batch.limited c.args.batch.now).each_limited c.requires.regular in
    let p = size r.m in
    let exponent = c.of-extent.ensures.exponent c.args.negative r.m r.q r.at in
    let precision = c.of-extent.ensures.precision c.args.negative r.m r.q r.at in
    let kept : to_z w32 (of_z w32 c.of-extent.result.exponent) ≡ c.of-extent.result.exponent = search rules in
    let lowest : to_z w32 (of_z w32 c.lowest_weight.result) ≡ c.lowest_weight.result = search rules in
    let weight = lowest ∙ c.lowest_weight.ensures ∙ (λ t. exponent t -ℤ pos (32 * limbs_for (precision t))) in
    let many : length c.read_limbs.new.limbs ≡ limbs_for p = omega (arith, c.read_limbs.ensures.many, c.split_at_mut-limbs.ensures, c.limb_count.ensures, precision) in
    let lent = sym c.read_limbs.ensures.many ∙ many in
    let limbs : c.read_limbs.new.limbs ≡ significand_of r.m p =
    c.read_limbs.ensures.bits c.args.negative r.m r.q r.at
    ∙ (λ t. limbs_of (lent t) (whole_units r.m r.q (weight t)))
    ∙ ap (limbs_of (limbs_for p)) (units_from_lowest r.m p r.q) in
    let line = lookup_found text_of_term [] ts c.args.i (regular c.args.negative r.m r.q) r.at in
    subst (λ bytes. Wrote c.args.line.now 0 bytes c.write_line.new.out c.write_line.result)
    ((λ t. spelling (term c.args.negative ((kept ∙ exponent) t) ((c.from.ensures ∙ precision) t) (limbs t))) ∙ sym line)
    c.write_line.ensures

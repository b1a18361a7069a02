-- One more record, and the pool with its limbs.
use Rattle.std.proofs.Common.{◌+◌, ◌<◌, ◌≤◌, length, take, arith, rules, length-take-le}
use Rattle.std.proofs.lemmas.List.{take_more_set}
use Rattle.std.proofs.Math.Seq.{take-add}
use Rattle.text_terms.specs.declared.list.TermList.{TermList}
use Rattle.text_terms.specs.TermLists.{terms_of}
use Rattle.text_terms.proofs.Growing.{length_terms, faultless_with, terms_with}
use Rattle.text_terms.proofs.list.TermList.keep.Goals as goal

-- there is a place for one more record where there is one for one more term
place_left : (l : TermList) → l.count ≤ length l.records → length (terms_of l) < 1024 → l.count < 1024
place_left l inside few = rw (length_terms (take l.used l.pool) l.records l.count inside) at few

pub invariant_of-self : goal.invariant_of-self
invariant_of-self c =
    let l = c.args.self.now in
    let inside : l.count ≤ length l.records = search rules in
    let few = place_left l inside c.requires.few in
    let more : l.count + 1 ≤ 1024 = omega arith in
    record {
      few = more;
      short = c.requires.room;
      faultless = rw (take-add l.used c.args.limbs l.pool, take_more_set l.records l.count c.args.record (search rules))
          (faultless_with (take l.used l.pool) _ (take l.count l.records) c.args.record l.faultless (rw (length-take-le l.count l.records inside) few) c.requires.faultless);
    }

pub returns-clause-terms : goal.returns-clause-terms
returns-clause-terms c =
    let l = c.args.self.now in
    let few = place_left l (search rules) c.requires.few in
    rw (take-add l.used c.args.limbs l.pool, take_more_set l.records l.count c.args.record (search rules))
    (terms_with (take l.used l.pool) _ (take l.count l.records) c.args.record l.faultless)

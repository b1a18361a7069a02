use Rattle.std.proofs.Common.{true, ◌∷◌, drop, sym, ap, ◌∙◌, arith, add-one}
use Rattle.std.proofs.lemmas.List.{drop-drop}
use Rattle.std.proofs.lemmas.Bool.{false_from_ne_true}
use Rattle.text_lines.specs.Lines.{lines_of}
use Rattle.text_lines.proofs.Cutting.{lines_of-ended, lines_of-unended}
use Rattle.text_lines.proofs.first_line.Goals as goal

pub returns-in-Some-clause-lines : goal.returns-in-Some-clause-lines
returns-in-Some-clause-lines c =
    let found = c.in-Some.ensures in
    let text = c.args.text.now in
    let end = c.in-Some.end in
    let cut = lines_of-ended text end found.0.high (λ k l. false_from_ne_true _ (found.0.before k (omega arith) l)) found.1 in
    let rest = ap (drop 1) c.split_at.ensures.back ∙ drop-drop 1 end text ∙ ap (λ n. drop n text) (add-one end) in
    cut ∙ (λ i. record { bytes = sym c.split_at.ensures.front i; ended = true } ∷ lines_of (sym (c.split_at-in-Some.ensures.back ∙ rest) i))

pub returns-in-None-clause-lines : goal.returns-in-None-clause-lines
returns-in-None-clause-lines c = let none = c.in-None.ensures in lines_of-unended c.args.text.now c.requires (λ k l. false_from_ne_true _ (none k (omega arith) l))

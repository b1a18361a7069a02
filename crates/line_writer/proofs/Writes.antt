-- One write after another.
use Rattle.std.proofs.Common.{◌≡◌, ℕ, ◌+◌, ◌≤◌, List, [], ◌++◌, length, take, drop, sym, refl, ap, ◌∙◌, add-zero, arith, length-append, length-drop, length-take}
use lib.Seq.{paste}
use Rattle.std.proofs.lemmas.List.Edits.{paste_all, paste-paste}
use Rattle.std.proofs.lemmas.List.{take-append-drop}
use Rattle.line_writer.specs.Wrote.{Wrote}

-- the buffer after a write
overwritten : List ℕ → ℕ → List ℕ → List ℕ
overwritten old at bytes = take at old ++ (bytes ++ drop (at + length bytes) old)

-- two writes in a row
overwritten-overwritten : (old : List ℕ) (at : ℕ) (xs ys : List ℕ) → at ≤ length old → overwritten (overwritten old at xs) (at + length xs) ys ≡ overwritten old at (xs ++ ys)
unfolding overwritten
overwritten-overwritten old at xs ys h =
    sym (paste_all _ (at + length xs) ys (length ys) refl)
    ∙ ap (λ l. paste l (at + length xs) ys (length ys)) (sym (paste_all old at xs (length xs) refl))
    ∙ paste-paste old at xs ys (length xs) (length ys) refl refl h
    ∙ paste_all old at (xs ++ ys) (length xs + length ys) (sym (length-append xs ys))
    ∙ ap (λ n. take at old ++ ((xs ++ ys) ++ drop (at + n) old)) (sym (length-append xs ys))

-- what a write leaves
new-overwritten : {old bytes new : List ℕ} {at end : ℕ} → Wrote old at bytes new end → new ≡ overwritten old at bytes
unfolding overwritten
new-overwritten {old} {bytes} {new} {at} {end} w = w.after ∙ ap (λ i. take at old ++ (bytes ++ drop i old)) w.ends

-- a write keeps the length of the buffer
pub length-new : {old bytes new : List ℕ} {at end : ℕ} → Wrote old at bytes new end → length new ≡ length old
length-new {old} {bytes} {new} {at} {end} w = ap length w.after ∙ simp (length-append, length-take, length-drop) (omega (arith, w.ends, w.room))

-- a write that begins where another ended is one write of both
pub then : {old mid new xs ys : List ℕ} {at m end : ℕ} → Wrote old at xs mid m → Wrote mid m ys new end → Wrote old at (xs ++ ys) new end
unfolding overwritten
then {old} {mid} {new} {xs} {ys} {at} {m} {end} w v =
    let long : end ≡ at + length (xs ++ ys) = simp length-append (omega (arith, w.ends, v.ends)) in
    record {
      ends = long;
      room = omega (arith, v.room, length-new w);
      after =
          new-overwritten v
          ∙ (λ i. overwritten (new-overwritten w i) (w.ends i) ys)
          ∙ overwritten-overwritten old at xs ys (omega (arith, w.ends, w.room))
          ∙ ap (λ i. take at old ++ ((xs ++ ys) ++ drop i old)) (sym long);
    }

-- nothing written
pub wrote_nothing : (old : List ℕ) (at : ℕ) → at ≤ length old → Wrote old at [] old at
wrote_nothing old at h = record { ends = sym (add-zero at); room = h; after = sym (take-append-drop at old) }

-- Integers in two parts, c * P + l with a natural l below P, and digits of 32 bits: one digit more.
use Rattle.std.proofs.Common.{◌≡◌, ℕ, ◌+◌, ◌*◌, ℤ, pos, ◌+ℤ◌, ◌*ℤ◌, sym, ap, ◌∙◌, mul_assoc, mul_comm, add-mul, arith}
use borrow.Author.Differences.{ints, up, down}

-- a digit t at P and a carry c into it make a digit l and a carry q out of it
pub carry_over : (t c q v : ℤ) (l L P Q : ℕ) → t +ℤ c ≡ q *ℤ pos 4294967296 +ℤ pos l → v ≡ c *ℤ pos P +ℤ pos L → Q ≡ 4294967296 * P
    → v +ℤ (t *ℤ pos P) ≡ q *ℤ pos Q +ℤ pos (L + l * P)
carry_over t c q v l L P Q e is pq =
    let h1 : up t + up c + down q * 4294967296 ≡ down t + down c + up q * 4294967296 + l = omega (arith, ints) in
    let h2 : up v + down c * P ≡ down v + up c * P + L = omega (arith, ints) in
    let m : up t * P + up c * P + down q * 4294967296 * P ≡ down t * P + down c * P + up q * 4294967296 * P + l * P =
    (let k = ap (λ (y : ℕ). y * P) h1 in simp add-mul at k) in
    let a : up q * Q ≡ up q * 4294967296 * P = ap (λ (y : ℕ). up q * y) pq ∙ sym (mul_assoc (up q) 4294967296 P) in
    let b : down q * Q ≡ down q * 4294967296 * P = ap (λ (y : ℕ). down q * y) pq ∙ sym (mul_assoc (down q) 4294967296 P) in
    omega (arith, ints)

-- one digit further down
pub digit_before : (t V W r : ℤ) (P Q : ℕ) → Q ≡ 4294967296 * P → V ≡ W +ℤ (r *ℤ pos P) → t +ℤ (pos 4294967296 *ℤ V) ≡ (t +ℤ (pos 4294967296 *ℤ W)) +ℤ (r *ℤ pos Q)
digit_before t V W r P Q e v =
    let a : up r * Q ≡ 4294967296 * (up r * P) = ap (λ (y : ℕ). up r * y) e ∙ mul_comm (up r) (4294967296 * P) ∙ mul_assoc 4294967296 P (up r) ∙ ap (λ (y : ℕ). 4294967296 * y) (mul_comm P (up r)) in
    let b : down r * Q ≡ 4294967296 * (down r * P) = ap (λ (y : ℕ). down r * y) e ∙ mul_comm (down r) (4294967296 * P) ∙ mul_assoc 4294967296 P (down r) ∙ ap (λ (y : ℕ). 4294967296 * y) (mul_comm P (down r)) in
    omega (arith, ints)

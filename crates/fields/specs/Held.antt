-- What limbs that were read are.
use Rattle.std.specs.Prelude.{ℕ, List}
use Rattle.fields.specs.Checking.{limbs_in}
use Rattle.fields.specs.declared.held.Limbs.{Limbs}

-- the limbs themselves, the least significant first
abbrev pub limbs_held : Limbs → List ℕ
limbs_held limbs = limbs_in limbs.text.now

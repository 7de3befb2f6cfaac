-- What is done with the names of files. This product's own profile.
use Rattle.std.specs.Prelude.{◌≡◌, ◌≢◌, ◌⊎◌, ℕ, List, [], ◌∷◌, ◌++◌}
use Rattle.sending.specs.declared.removing.NameCall.{NameCall}
use Rattle.sending.specs.declared.removing.NameCall.TheVariants.{Named, Removed}

-- The names are as before; or the file that was opened at this path was found at another one, too, in another folder, and
-- then its name at this path was removed.
abbrev pub MovesName : (path : List ℕ) (old new : List NameCall) → Type 0
MovesName path old new = (new ≡ old) ⊎ ((other : List ℕ) × (other ≢ path) × (new ≡ old ++ (Named path other ∷ Removed path ∷ [])))

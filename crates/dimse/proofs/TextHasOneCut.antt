-- The fragments of a text are a cut of it (`fragments_cut`), and its only one (`one_cut`). Stands on the definitions
-- alone.
use Rattle.std.proofs.Common.{◌≡◌, ℕ, zero, suc, ◌<◌, ◌≤◌, List, [], ◌∷◌, ◌++◌, length, take, drop, refl, sym, ap, ◌∙◌, arith, inl, inr}
use Rattle.std.proofs.lemmas.Bool.{cases_lt, le-leb, lt-leb}
use Rattle.std.proofs.lemmas.List.{append-nil, length-append, length-take, length-drop, take_at, drop_at, take-append-drop}
use Rattle.pdu.specs.Pieces.{joined}
use Rattle.dimse.specs.Reply.{HaveSize, IsFragmented, fragments_in, fragments}

joined_one : (f : List ℕ) → joined (f ∷ []) ≡ f
joined_one f = append-nil f

-- ---- the cut that is computed

abbrev Cuts : ℕ → List ℕ → List (List ℕ) → Type 0
Cuts size text cut = (joined cut ≡ text) × HaveSize size cut

one_fragment : (size : ℕ) (text : List ℕ) → length text ≤ size → Cuts size text (text ∷ [])
one_fragment size text le = (joined_one text, le)

-- a whole fragment before a cut of the rest
before : (size : ℕ) (front rest : List ℕ) (cut : List (List ℕ)) → 1 ≤ size → length front ≡ size → 1 ≤ length rest → Cuts size rest cut → Cuts size (front ++ rest) (front ∷ cut)
before size front rest [] one len some h = absurd h.1
before size front rest (last ∷ []) one len some h =
    let same : last ≡ rest = sym (joined_one last) ∙ h.0 in
    (ap (λ (t : List ℕ). front ++ t) h.0, (len, rw same some, h.1))
before size front rest (first ∷ next ∷ more) one len some h =
    let more_than : 1 ≤ length first = omega (arith, h.1.0) in
    (ap (λ (t : List ℕ). front ++ t) h.0, (len, more_than, h.1))

cuts : (more size : ℕ) (text : List ℕ) → 1 ≤ size → length text ≤ more → Cuts size text (fragments_in more size text)
cuts zero size text one le = one_fragment size text (omega arith)
cuts (suc more) size text one le =
    elim (cases_lt size (length text)) [
      | inl lt ↦
          let len : length (take size text) ≡ size = omega (arith, length-take size text) in
          let some : 1 ≤ length (drop size text) = omega (arith, length-drop size text) in
          let rest = cuts more size (drop size text) one (omega (arith, length-drop size text)) in
          let all = before size (take size text) (drop size text) (fragments_in more size (drop size text)) one len some rest in
          rw (lt-leb (length text) size lt) (all.0 ∙ take-append-drop size text, all.1)
      | inr le ↦ rw (le-leb (length text) size le) (one_fragment size text le)
    ]

pub fragments_cut : (size : ℕ) (text : List ℕ) → 1 ≤ size → IsFragmented size text (fragments size text)
unfolding fragments
fragments_cut size text one =
    let h = cuts (length text) size text one (omega arith) in
    record { whole = sym h.0; sizes = h.1 }

-- ---- no other cut

only_one : (more size : ℕ) (text : List ℕ) → length text ≤ size → fragments_in more size text ≡ text ∷ []
only_one zero size text le = refl
only_one (suc more) size text le = rw (le-leb (length text) size le) refl

only : (more size : ℕ) (cut : List (List ℕ)) → 1 ≤ size → length (joined cut) ≤ more → HaveSize size cut → cut ≡ fragments_in more size (joined cut)
only more size [] one le h = absurd h
only more size (last ∷ []) one le h =
    let short : length (last ++ []) ≤ size = rw append-nil h in
    sym (only_one more size (last ++ []) short ∙ ap (λ (t : List ℕ). t ∷ []) (append-nil last))
only zero size (first ∷ next ∷ more) one le h = absurd (omega (arith, h.0, le, length-append first (joined (next ∷ more))))
only (suc k) size (first ∷ next ∷ more) one le h =
    let rest = joined (next ∷ more) in
    let len : length first ≡ size = h.0 in
    let long : size < length (first ++ rest) = omega (arith, h.0, h.1, length-append first rest, length-append next (joined more)) in
    let again = only k size (next ∷ more) one (omega (arith, le, h.0, length-append first rest)) h.2 in
    rw (lt-leb (length (first ++ rest)) size long, take_at first rest size len, drop_at first rest size len) (ap (λ (c : List (List ℕ)). first ∷ c) again)

pub one_cut : (size : ℕ) (text : List ℕ) (cut : List (List ℕ)) → 1 ≤ size → IsFragmented size text cut → cut ≡ fragments size text
unfolding fragments
one_cut size text cut one h = rw h.whole (only (length (joined cut)) size cut one (omega arith) h.sizes)

-- The room of a header, after the tag and what follows it are laid down, begins with the header's bytes (`written`). Stands
-- on Headers.
use Rattle.std.proofs.Common.{◌≡◌, ℕ, ◌+◌, ◌^◌, ◌<◌, true, List, [], ◌∷◌, ◌++◌, length, take, drop, refl, sym, ap, subst, ◌∙◌, arith, length-drop}
use Rattle.std.proofs.lemmas.List.{take_all, take_at, drop-drop, drop_all, append-nil}
use borrow.Rule.Slice.PartMut.{put_mid}
use Rattle.element.specs.declared.syntax.Syntax.{Syntax}
use Rattle.element.specs.declared.header.Header.{Header}
use Rattle.element.specs.declared.size.Need.TheVariants.{Size}
use Rattle.element.specs.Vr.{IsVrOrNone}
use Rattle.element.specs.Header.{need, header_at, header_bytes, tag_bytes, vr_bytes, header_fits, IsTag, SpellsHeader}
use Rattle.element.proofs.Headers.{written_spells, spelled_need, spelled_header}

pub laid : (a b c d : ℕ) (vb room r1 r2 : List ℕ) (k : ℕ) → length room ≡ 12 → r1 ≡ a ∷ b ∷ c ∷ d ∷ drop 4 room → r2 ≡ vb ++ drop k (take 8 (drop 4 r1))
    → put_mid 4 8 r1 r2 ≡ a ∷ b ∷ c ∷ d ∷ (vb ++ drop (4 + k) room)
laid a b c d vb room r1 r2 k size e f =
    let rest : drop 4 r1 ≡ drop 4 room = ap (drop 4) e in
    let whole : take 8 (drop 4 room) ≡ drop 4 room = take_all 8 (drop 4 room) (omega (arith, length-drop 4 room)) in
    let none : drop 8 (drop 4 r1) ≡ [] = ap (drop 8) rest ∙ drop_all 8 (drop 4 room) (omega (arith, length-drop 4 room)) in
    let front : take 4 r1 ≡ a ∷ b ∷ c ∷ d ∷ [] = ap (take 4) e in
    let back : r2 ≡ vb ++ drop (4 + k) room = f ∙ (ap (λ z. vb ++ drop k (take 8 z)) rest ∙ (ap (λ z. vb ++ drop k z) whole ∙ ap (λ z. vb ++ z) (drop-drop k 4 room))) in
    let all : r2 ++ drop 8 (drop 4 r1) ≡ vb ++ drop (4 + k) room = ap (λ z. r2 ++ z) none ∙ (append-nil r2 ∙ back) in
    ap (λ z. z ++ (r2 ++ drop 8 (drop 4 r1))) front ∙ ap (λ z. a ∷ b ∷ c ∷ d ∷ z) all

-- the header is there, it spells itself, and it is read back whatever follows
pub written : (s : Syntax) (h : Header) (room r1 r2 : List ℕ) (k : ℕ) → length room ≡ 12 → r1 ≡ tag_bytes h.tag ++ drop 4 room → IsTag h.tag
    → r2 ≡ vr_bytes h.vr h.length ++ drop k (take 8 (drop 4 r1)) → k ≡ length (vr_bytes h.vr h.length) → IsVrOrNone h.vr → h.length < 2 ^ 32 → header_fits s h ≡ true
    → (put_mid 4 8 r1 r2 ≡ header_bytes h ++ drop (4 + k) room) × SpellsHeader s h (take (4 + k) (put_mid 4 8 r1 r2))
    × ((rest : List ℕ) → header_at s (take (4 + k) (put_mid 4 8 r1 r2) ++ rest) ≡ h) × ((rest : List ℕ) → need s (take (4 + k) (put_mid 4 8 r1 r2) ++ rest) ≡ Size (4 + k))
written s h room r1 r2 k size e fits f len named lt can =
    let all : put_mid 4 8 r1 r2 ≡ header_bytes h ++ drop (4 + k) room = laid _ _ _ _ (vr_bytes h.vr h.length) room r1 r2 k size e f in
    let long : length (header_bytes h) ≡ 4 + k = omega (arith, len) in
    let front : take (4 + k) (put_mid 4 8 r1 r2) ≡ header_bytes h = ap (take (4 + k)) all ∙ take_at (header_bytes h) (drop (4 + k) room) (4 + k) long in
    let spells : SpellsHeader s h (header_bytes h) = written_spells s h fits lt named can in (
      all,
      subst (λ z. SpellsHeader s h z) (sym front) spells,
      λ rest. rw front (sym (spelled_header s h (header_bytes h) rest (header_bytes h ++ rest) spells refl)),
      λ rest. rw front (spelled_need s h (header_bytes h) rest (header_bytes h ++ rest) spells refl ∙ ap (λ z. Size z) long),
    )

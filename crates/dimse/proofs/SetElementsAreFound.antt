-- Going along the elements of a command set finds the value of an element (`remaining_found`, `remaining_none`), and that all
-- rise and nothing is remaining, or not (`ahead_none`, `ahead_order`). Stands on the definitions alone.
use Rattle.std.proofs.Common.{◌≡◌, ℕ, zero, suc, ◌<◌, ◌≤◌, Bool, true, false, cond, ◌&&◌, ltb, eqb, List, [], ◌∷◌, length, drop, Option, Some, None, refl, sym, ap, ◌∙◌, arith}
use Rattle.std.specs.Option.{is_some}
use Rattle.std.proofs.Math.Dec.{eqb-suc-zero}
use Rattle.std.proofs.lemmas.Bool.{ltb-true, leb-true, lt-ltb, le-ltb}
use Rattle.std.proofs.lemmas.List.{length-drop}
use Rattle.dimse.specs.Command.{CommandElement, command_value}
use Rattle.dimse.specs.Reading.{is_element, element_at, with_element, elements_in, elements_of}

pub guarded : (t : Bool) (x : CommandElement) (o : Option (List CommandElement)) (more : List CommandElement) → cond t (with_element x o) None ≡ Some more
    → (t ≡ true) × ((others : List CommandElement) × ((o ≡ Some others) × (more ≡ x ∷ others)))
guarded true x (Some others) more e = (refl, (others, (refl, cc)))
guarded true x None more e = absurd cc
guarded false x o more e = absurd cc

pub element_none : element_at [] ≡ None
unfolding element_at
element_none = refl

-- the first of the elements
pub record FirstIn (last : ℕ) (x : CommandElement × List ℕ) (more : List CommandElement) : Type 0 where
  pub above : last < x.0.number
  pub most : ℕ
  pub others : List CommandElement
  pub after : elements_in most x.0.number x.1 ≡ Some others
  pub whole : more ≡ x.0 ∷ others

pub first_in : (most last : ℕ) (b : List ℕ) (x : CommandElement × List ℕ) (more : List CommandElement) → element_at b ≡ Some x → elements_in most last b ≡ Some more → FirstIn last x more
unfolding elements_in
first_in zero last [] x more e h = absurd (cc element_none)
first_in zero last (c ∷ b) x more e h = absurd cc
first_in (suc most) last [] x more e h = absurd (cc element_none)
first_in (suc most) last (c ∷ b) x more e h =
    let g = guarded (ltb last x.0.number) x.0 (elements_in most x.0.number x.1) more (rw e at h) in
    record { above = ltb-true _ _ g.0; most = most; others = g.1.0; after = g.1.1.0; whole = g.1.1.1 }

pub none_in : (most last : ℕ) (b : List ℕ) (more : List CommandElement) → element_at b ≡ None → elements_in most last b ≡ Some more → more ≡ []
unfolding elements_in
none_in zero last [] more e h = cc
none_in zero last (c ∷ b) more e h = absurd cc
none_in (suc most) last [] more e h = cc
none_in (suc most) last (c ∷ b) more e h = let g : None ≡ Some more = rw e at h in absurd cc

-- what a search for an element's value still has before it
pub record Remaining (n : ℕ) (es : List CommandElement) (b : List ℕ) : Type 0 where
  pub most : ℕ
  pub last : ℕ
  pub more : List CommandElement
  pub here : elements_in most last b ≡ Some more
  pub same : command_value n more ≡ command_value n es

pub remaining_all : (n : ℕ) (es : List CommandElement) (b : List ℕ) → elements_of b ≡ Some es → Remaining n es b
unfolding elements_of
remaining_all n es b h = record { most = length b; last = 0; more = es; here = h; same = refl }

pub remaining_next : (n : ℕ) (es : List CommandElement) (b : List ℕ) (x : CommandElement × List ℕ) → Remaining n es b → Some x ≡ element_at b → eqb x.0.number n ≡ false → Remaining n es x.1
remaining_next n es b x l e other =
    let f = first_in l.most l.last b x l.more (sym e) l.here in
    let passed : command_value n (x.0 ∷ f.others) ≡ command_value n f.others = rw other refl in
    record { most = f.most; last = x.0.number; more = f.others; here = f.after; same = sym passed ∙ sym (ap (command_value n) f.whole) ∙ l.same }

pub remaining_found : (n : ℕ) (es : List CommandElement) (b : List ℕ) (x : CommandElement × List ℕ) → Remaining n es b → Some x ≡ element_at b → eqb x.0.number n ≡ true → Some x.0.value ≡ command_value n es
remaining_found n es b x l e this =
    let f = first_in l.most l.last b x l.more (sym e) l.here in
    let found : command_value n (x.0 ∷ f.others) ≡ Some x.0.value = rw this refl in
    sym found ∙ sym (ap (command_value n) f.whole) ∙ l.same

pub remaining_none : (n : ℕ) (es : List CommandElement) (b : List ℕ) → Remaining n es b → None ≡ element_at b → None ≡ command_value n es
remaining_none n es b l e = ap (command_value n) (sym (none_in l.most l.last b l.more (sym e) l.here)) ∙ l.same

-- what a test of the order still has before it
pub record Ahead (whole b : List ℕ) (last : ℕ) : Type 0 where
  pub most : ℕ
  pub room : length b ≤ most
  pub same : is_some (elements_in most last b) ≡ is_some (elements_of whole)

pub ahead_all : (b : List ℕ) → Ahead b b 0
unfolding elements_of
ahead_all b = record { most = length b; room = omega arith; same = refl }

shorter : (b : List ℕ) (t : Bool) (e : CommandElement) (n : ℕ) (x : CommandElement × List ℕ) → (t ≡ true → 8 ≤ length b) → cond t (Some (e, drop n (drop 8 b))) None ≡ Some x → length x.1 < length b
shorter b true e n x long h =
    let at-least : 8 ≤ length b = long refl in
    let same : drop n (drop 8 b) ≡ x.1 = cc in
    rw (← same) (omega (arith, length-drop n (drop 8 b), length-drop 8 b))
shorter b false e n x long h = absurd cc

-- the first of two tests that both hold
first_holds : (a b : Bool) → (a && b) ≡ true → a ≡ true
first_holds true b h = refl
first_holds false b h = h

pub element_shorter : (b : List ℕ) (x : CommandElement × List ℕ) → Some x ≡ element_at b → length x.1 < length b
unfolding element_at
element_shorter b x e = shorter b (is_element b) _ _ x (λ t. leb-true _ _ (first_holds _ _ t)) (sym e)

some_with : (x : CommandElement) (o : Option (List CommandElement)) → is_some (with_element x o) ≡ is_some o
some_with x None = refl
some_with x (Some es) = refl

next_of : (most : ℕ) (whole b : List ℕ) (last : ℕ) (x : CommandElement × List ℕ) → length b ≤ most → is_some (elements_in most last b) ≡ is_some (elements_of whole) → Some x ≡ element_at b → last < x.0.number → Ahead whole x.1 x.0.number
unfolding elements_in
next_of most whole [] last x room same e lt = absurd (cc element_none)
next_of zero whole (c ∷ b) last x room same e lt = absurd (omega arith)
next_of (suc most) whole (c ∷ b) last x room same e lt =
    let less : length x.1 < length (c ∷ b) = element_shorter (c ∷ b) x e in
    let step : is_some (cond (ltb last x.0.number) (with_element x.0 (elements_in most x.0.number x.1)) None) ≡ is_some (elements_of whole) = rw (sym e) at same in
    let goes : is_some (with_element x.0 (elements_in most x.0.number x.1)) ≡ is_some (elements_of whole) = rw (lt-ltb last x.0.number lt) at step in
    record { most = most; room = omega arith; same = sym (some_with x.0 (elements_in most x.0.number x.1)) ∙ goes }

end_of : (most : ℕ) (whole b : List ℕ) (last : ℕ) → is_some (elements_in most last b) ≡ is_some (elements_of whole) → length b ≡ 0 → true ≡ is_some (elements_of whole)
unfolding elements_in
end_of zero whole [] last same nothing = same
end_of (suc most) whole [] last same nothing = same
end_of most whole (c ∷ b) last same nothing = absurd (omega arith)

stop_of : (most : ℕ) (whole b : List ℕ) (last : ℕ) → is_some (elements_in most last b) ≡ is_some (elements_of whole) → 0 < length b → None ≡ element_at b → false ≡ is_some (elements_of whole)
unfolding elements_in
stop_of most whole [] last same more e = absurd (omega arith)
stop_of zero whole (c ∷ b) last same more e = same
stop_of (suc most) whole (c ∷ b) last same more e = rw (sym e) at same

order_of : (most : ℕ) (whole b : List ℕ) (last : ℕ) (x : CommandElement × List ℕ) → is_some (elements_in most last b) ≡ is_some (elements_of whole) → Some x ≡ element_at b → x.0.number ≤ last → false ≡ is_some (elements_of whole)
unfolding elements_in
order_of most whole [] last x same e le = absurd (cc element_none)
order_of zero whole (c ∷ b) last x same e le = same
order_of (suc most) whole (c ∷ b) last x same e le =
    let step : is_some (cond (ltb last x.0.number) (with_element x.0 (elements_in most x.0.number x.1)) None) ≡ is_some (elements_of whole) = rw (sym e) at same in
    rw (le-ltb last x.0.number le) at step

pub ahead_next : (whole b : List ℕ) (last : ℕ) (x : CommandElement × List ℕ) → Ahead whole b last → Some x ≡ element_at b → last < x.0.number → Ahead whole x.1 x.0.number
ahead_next whole b last x a e lt = next_of a.most whole b last x a.room a.same e lt

none_remaining : (most : ℕ) (whole b : List ℕ) (last : ℕ) → is_some (elements_in most last b) ≡ is_some (elements_of whole) → None ≡ element_at b → eqb (length b) 0 ≡ is_some (elements_of whole)
none_remaining most whole [] last same e = end_of most whole [] last same refl
none_remaining most whole (c ∷ b) last same e = eqb-suc-zero (length b) ∙ stop_of most whole (c ∷ b) last same (omega arith) e

-- no element comes next: all is well where nothing is left
pub ahead_none : (whole b : List ℕ) (last : ℕ) → Ahead whole b last → None ≡ element_at b → eqb (length b) 0 ≡ is_some (elements_of whole)
ahead_none whole b last a e = none_remaining a.most whole b last a.same e

-- one comes that is not above the last
pub ahead_order : (whole b : List ℕ) (last : ℕ) (x : CommandElement × List ℕ) → Ahead whole b last → Some x ≡ element_at b → x.0.number ≤ last → false ≡ is_some (elements_of whole)
ahead_order whole b last x a e le = order_of a.most whole b last x a.same e le

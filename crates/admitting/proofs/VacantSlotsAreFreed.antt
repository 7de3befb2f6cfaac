-- With one place more looked at, its slot is freed too (`freed_next`), unless it has a connection (`kept_next`) or there is
-- no such slot (`none_next`). Stands on the definitions alone.
use Rattle.std.proofs.Common.{◌≡◌, ℕ, zero, suc, ◌<◌, ◌≤◌, Bool, true, false, List, [], ◌∷◌, length, take, set, get_or, Option, None, if◌then◌else◌, map, refl, sym, ap, ◌∙◌, ◌+◌, arith}
use Rattle.admitting.specs.Occupants.{Occupants, after_freeing, without_vacant}

one_kept : (places : List Bool) (peers : List (Option ℕ)) (slot : ℕ) → slot < length places → get_or places slot false ≡ true → without_vacant (take (suc slot) places) peers ≡ without_vacant (take slot places) peers
one_kept [] peers slot lt is = absurd (omega (arith, lt))
one_kept (b ∷ places) [] zero lt is = refl
one_kept (b ∷ places) [] (suc slot) lt is = refl
one_kept (true ∷ places) (p ∷ peers) zero lt is = refl
one_kept (false ∷ places) (p ∷ peers) zero lt is = absurd cc
one_kept (b ∷ places) (p ∷ peers) (suc slot) lt is = ap (λ (ps : List (Option ℕ)). (if b then p else None) ∷ ps) (one_kept places peers slot (omega (arith, lt)) is)

one_emptied : (places : List Bool) (peers : List (Option ℕ)) (slot : ℕ) → slot < length places → get_or places slot false ≡ false → without_vacant (take (suc slot) places) peers ≡ set (without_vacant (take slot places) peers) slot None
one_emptied [] peers slot lt is = absurd (omega (arith, lt))
one_emptied (b ∷ places) [] zero lt is = refl
one_emptied (b ∷ places) [] (suc slot) lt is = refl
one_emptied (true ∷ places) (p ∷ peers) zero lt is = absurd cc
one_emptied (false ∷ places) (p ∷ peers) zero lt is = refl
one_emptied (b ∷ places) (p ∷ peers) (suc slot) lt is = ap (λ (ps : List (Option ℕ)). (if b then p else None) ∷ ps) (one_emptied places peers slot (omega (arith, lt)) is)

one_beyond : (places : List Bool) (peers : List (Option ℕ)) (slot : ℕ) → slot < length places → length peers ≤ slot → without_vacant (take (suc slot) places) peers ≡ without_vacant (take slot places) peers
one_beyond [] peers slot lt le = absurd (omega (arith, lt))
one_beyond (b ∷ places) [] zero lt le = refl
one_beyond (b ∷ places) [] (suc slot) lt le = refl
one_beyond (b ∷ places) (p ∷ peers) zero lt le = absurd (omega (arith, le))
one_beyond (b ∷ places) (p ∷ peers) (suc slot) lt le = ap (λ (ps : List (Option ℕ)). (if b then p else None) ∷ ps) (one_beyond places peers slot (omega (arith, lt)) (omega (arith, le)))

-- freeing keeps the number of slots
same_count : (places : List Bool) (peers : List (Option ℕ)) → length (without_vacant places peers) ≡ length peers
same_count [] peers = refl
same_count (b ∷ places) [] = refl
same_count (b ∷ places) (p ∷ peers) = ap suc (same_count places peers)

-- what is seen of the place at this index
seen_at : {X : Type 0} (see : X → Bool) (places : List X) (slot : ℕ) (place : X) → slot < length places → place ≡ get_or places slot place → get_or (map see places) slot false ≡ see place
seen_at see [] slot place lt is = absurd (omega (arith, lt))
seen_at see (p ∷ places) zero place lt is = ap see (sym is)
seen_at see (p ∷ places) (suc slot) place lt is = seen_at see places slot place (omega (arith, lt)) is

made_of : (new : Occupants) (peers : List (Option ℕ)) (per_peer : ℕ) → new.peers ≡ peers → new.per_peer ≡ per_peer → new ≡ record { peers = peers; per_peer = per_peer }
made_of new peers per_peer e f = rw (sym e, sym f) refl

all_seen : {X : Type 0} (see : X → Bool) (places : List X) → length (map see places) ≡ length places
all_seen see [] = refl
all_seen see (p ∷ places) = ap suc (all_seen see places)

module _ {X : Type 0} (see : X → Bool) (places : List X) (old mid : Occupants) (slot next : ℕ) (place : X) (is_next : next ≡ suc slot) (lt : slot < length places) (is : place ≡ get_or places slot place)
    (before : mid ≡ after_freeing (take slot (map see places)) old) where
  within : slot < length (map see places)
  within = omega (arith, lt, all_seen see places)

  pub kept_next : see place ≡ true → mid ≡ after_freeing (take next (map see places)) old
  kept_next has = rw is_next (before ∙ ap (λ (ps : List (Option ℕ)). record old { peers = ps }) (sym (one_kept (map see places) old.peers slot within (seen_at see places slot place lt is ∙ has))))

  pub none_next : length mid.peers ≤ slot → mid ≡ after_freeing (take next (map see places)) old
  none_next le =
      let count : length mid.peers ≡ length old.peers = ap (λ (o : Occupants). length o.peers) before ∙ same_count (take slot (map see places)) old.peers in
      rw is_next (before ∙ ap (λ (ps : List (Option ℕ)). record old { peers = ps }) (sym (one_beyond (map see places) old.peers slot within (omega (arith, count, le)))))

  pub freed_next : (new : Occupants) → see place ≡ false → new.peers ≡ set mid.peers slot None → new.per_peer ≡ mid.per_peer → new ≡ after_freeing (take next (map see places)) old
  freed_next new none peers per_peer =
      let emptied = one_emptied (map see places) old.peers slot within (seen_at see places slot place lt is ∙ none) in
      let same_peers : new.peers ≡ without_vacant (take next (map see places)) old.peers = rw is_next (peers ∙ ap (λ (o : Occupants). set o.peers slot None) before ∙ sym emptied) in
      let same_most : new.per_peer ≡ old.per_peer = per_peer ∙ ap (λ (o : Occupants). o.per_peer) before in
      made_of new _ _ same_peers same_most

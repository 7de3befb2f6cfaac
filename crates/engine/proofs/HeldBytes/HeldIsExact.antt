-- The bytes that an association holds are those that are held of its inputs (`held_as`). Stands on KeptByPhase,
-- FieldsShow/NothingCounts, PiecesAreDone/SkippedPdu and the laws of `pdu`.
use Rattle.std.proofs.Common.{◌≡◌, ℕ, ◌+◌, ◌<◌, ◌≤◌, Bool, true, false, List, [], ◌∷◌, length, if◌then◌else◌, refl, sym, ap, ◌∙◌, arith, inl, inr}
use Rattle.std.proofs.lemmas.Grind.{common_steps}
use Rattle.std.proofs.lemmas.Bool.{cases_Bool, cases_lt, lt-ltb, le-ltb}
use Rattle.pdu.specs.declared.position.Position.{Position}
use Rattle.pdu.specs.declared.position.Position.TheVariants as position
use Rattle.pdu.specs.Marks.{Mark, Pdv, End}
use Rattle.pdu.specs.Spot.{Spot, spot}
use Rattle.pdu.specs.Deframing.{At, SkipsAt, AtBody, in_body, after_body, AtFragment, in_fragment, after_fragment, unfinished_heads, unfinished_pdv_head}
use Rattle.pdu.proofs.Public.{spot_opening}
use Rattle.negotiate.specs.Settings.{Settings}
use Rattle.dimse.specs.Messages.{Started}
use Rattle.part10.specs.Store.{Store}
use Rattle.sequence.specs.declared.coding.Coding.{Coding}
use Rattle.sequence.specs.Rules.{Limits}
use Rattle.sequence.specs.Walk.{Report, Reports, going, refused}
use Rattle.sequence.specs.Consumed.{walker_syntax, limits_of, reported_by}
use Rattle.engine.specs.Requested.{Requested}
use Rattle.engine.specs.Stores.{limits}
use Rattle.engine.specs.Run.{Rooms}
use Rattle.engine.specs.Reached.{Reached, accepts_pdvs, started_in, started_pdv, message_so_far}
use Rattle.engine.specs.Held as holding
use Rattle.engine.specs.Held.{is_ended, unfinished, of_request, of_command, held_before_data, IsHeldOfSet, unbroken, faulty, IsHeldOfMessage, Held}
use Rattle.engine.specs.Stands.{Shows}
use Rattle.engine.specs.Kept.{Kept, accepts_pdvs_in, held_by}
use Rattle.engine.specs.StoredData.{Stored, Walks, not_walked, walked, held_in}
use Rattle.engine.specs.FrameFields.{Fields, StandsAt, reads, skips}
use Rattle.engine.specs.machine.Skips.{in_pdv_head}
use Rattle.engine.specs.machine.HeldHeads.{heads_of}
use Rattle.engine.proofs.PiecesAreDone.SkippedPdu.{skips_frame}
use Rattle.engine.proofs.HeldBytes.KeptByPhase.{held_shown, held_ended}
use Rattle.engine.proofs.FieldsShow.NothingCounts.{accepts_shown, ended_stored}

few : (xs : List ℕ) → length xs < 6 → unfinished xs ≡ length xs
few xs lt = rw (lt-ltb (length xs) 6 lt) refl

many : (xs : List ℕ) → 6 ≤ length xs → unfinished xs ≡ 0
many xs le = rw (le-ltb (length xs) 6 le) refl

heads_ended : (r : Reached) → is_ended r.progress.state ≡ true → heads_of r ≡ 0
heads_ended r e = rw e refl

heads_open : (r : Reached) (b : List ℕ) (n m : ℕ) → is_ended r.progress.state ≡ false → started_in (spot r.rest) ≡ b → unfinished r.rest ≡ n → unfinished (if accepts_pdvs r.progress then b else []) ≡ m → heads_of r ≡ n + m
heads_open r b n m e is first second =
    let started : unfinished (started_pdv r) ≡ m = ap (λ (x : List ℕ). unfinished (if accepts_pdvs r.progress then x else [])) is ∙ second in
    rw e (omega (arith, first, started))

-- ---- heads

pub unfinished_none : (t : Bool) → unfinished (if t then [] else []) ≡ 0
unfinished_none t = grind (arith, common_steps)

-- of a frame that stands past the head of a PDV
no_pdv_head : (q : Position) (r : List ℕ) → At q r [] → in_pdv_head q ≡ false → 6 ≤ length r → unfinished_pdv_head (spot r) ≡ 0
no_pdv_head (position.Head bytes) r a e six = absurd (let lt = a.short in omega (arith, lt, six))
no_pdv_head (position.Body kind remaining) r a e six = go a where
  go : AtBody kind remaining r [] → unfinished_pdv_head (spot r) ≡ 0
  go (in_body lt i none) = ap unfinished_pdv_head i.spot_is
  go (after_body o) = absurd (let wrong : [] ≡ End kind o.body ∷ [] = o.due_is in cc)
no_pdv_head (position.PdvHead remaining bytes) r a e six = absurd cc
no_pdv_head (position.Fragment remaining more) r a e six = go a where
  go : AtFragment remaining more r [] → unfinished_pdv_head (spot r) ≡ 0
  go (in_fragment lt f) = ap unfinished_pdv_head f.inside.spot_is ∙ rw (le-ltb (length f.part) 6 f.headed) refl
  go (after_fragment zero x) = absurd (let wrong : [] ≡ Pdv x.context x.control x.fragment ∷ x.later = x.due_is in cc)
no_pdv_head (position.Leftover remaining) r a e six = ap unfinished_pdv_head a.inside.spot_is
no_pdv_head (position.Skipped kind remaining) r a e six = absurd (let wrong : [] ≡ End kind a.body ∷ [] = a.due_is in cc)

heads_of_pdv : (x : Spot) → unfinished_pdv_head x ≡ unfinished (started_in x)
heads_of_pdv x = grind (arith, common_steps)

module _ (q : Position) (k : Kept) (store : Store) (r : Reached) where
  -- the deframer holds those that count: no head of a PDV is gathered where PDVs don't
  pub heads_are : (n : ℕ) → (accepts_pdvs_in k ≡ false → in_pdv_head q ≡ false) → ((x : List ℕ) (due : List Mark) → At q x due → n ≡ unfinished_heads x) → ((x : List ℕ) → SkipsAt q x → n ≡ 0)
      → Shows (record { position = q; kept = k }) store r → n ≡ heads_of r
  heads_are n headless reported skipping h = elim (cases_Bool (is_ended r.progress.state)) [
    | inl e ↦ reported [] [] (h.headless e) ∙ sym (heads_ended r e)
    | inr e ↦ go e (h.frame.framed e)
  ]
    where
      accepts_is : accepts_pdvs_in k ≡ accepts_pdvs r.progress
      accepts_is = accepts_shown k store r.progress _ _ h.frame.pends

      within : is_ended r.progress.state ≡ false → At q r.rest [] → 6 ≤ length r.rest → n ≡ unfinished_pdv_head (spot r.rest) → n ≡ heads_of r
      within e at ge is = elim (cases_Bool (accepts_pdvs_in k)) [
        | inl t ↦
            let accepts : accepts_pdvs r.progress ≡ true = sym accepts_is ∙ t in
            let second : unfinished (if accepts_pdvs r.progress then started_in (spot r.rest) else []) ≡ unfinished_pdv_head (spot r.rest) = rw accepts (sym (heads_of_pdv (spot r.rest))) in
            omega (arith, is, heads_open r (started_in (spot r.rest)) 0 (unfinished_pdv_head (spot r.rest)) e refl (many r.rest ge) second)
        | inr t ↦
            let accepts : accepts_pdvs r.progress ≡ false = sym accepts_is ∙ t in
            let second : unfinished (if accepts_pdvs r.progress then started_in (spot r.rest) else []) ≡ 0 = rw accepts refl in
            omega (arith, is, no_pdv_head q r.rest at (headless t) ge, heads_open r (started_in (spot r.rest)) 0 0 e refl (many r.rest ge) second)
      ]

      go : is_ended r.progress.state ≡ false → StandsAt q k r.rest [] → n ≡ heads_of r
      go e (skips s u none) =
          let accepts : accepts_pdvs r.progress ≡ false = sym accepts_is ∙ u.pdvs in
          let second : unfinished (if accepts_pdvs r.progress then started_in (spot r.rest) else []) ≡ 0 = rw accepts refl in
          omega (arith, skipping r.rest s, heads_open r (started_in (spot r.rest)) 0 0 e refl (many r.rest (skips_frame q r.rest s).headed) second)
      go e (reads at) = elim (cases_lt (length r.rest) 6) [
        | inl lt ↦
            let heads : unfinished_heads r.rest ≡ length r.rest = rw (lt-ltb (length r.rest) 6 lt) refl in
            let open_is : started_in (spot r.rest) ≡ [] = ap started_in (spot_opening r.rest lt) in
            omega (arith, reported r.rest [] at, heads, heads_open r [] (length r.rest) 0 e open_is (few r.rest lt) (unfinished_none (accepts_pdvs r.progress)))
        | inr ge ↦
            let heads : unfinished_heads r.rest ≡ unfinished_pdv_head (spot r.rest) = rw (le-ltb (length r.rest) 6 ge) refl in
            within e at ge (reported r.rest [] at ∙ heads)
      ]

-- ---- the data set

held_reported : {syntax : Coding} {lim : Limits} {set : List ℕ} {reported : Report} → Reports syntax lim set reported → IsHeldOfSet syntax lim set reported.held
held_reported (going whole front) = unbroken whole front
held_reported (refused fault front) = faulty fault front

held_walked : {depth most : ℕ} {request : Requested} {m : Started} {stored : Stored} → (rooms : Rooms) (s : Settings) → rooms.depth ≡ depth → s.max_data ≡ most
    → Walks depth most request m stored → IsHeldOfMessage rooms s request m (held_in stored)
held_walked rooms s d l (not_walked none) = holding.not_walked none
held_walked rooms s d l (walked {walker = w} store accepts) =
    let reported : IsHeldOfSet (walker_syntax w) (limits_of w) store.set (reported_by w).held = held_reported accepts.stands.reports in
    let same : limits_of w ≡ limits rooms.depth s.max_data = accepts.limits_are ∙ rw (d, l) refl in
    holding.walked store (rw (accepts.syntax_is, same) at reported)

pub held_as : (rooms : Rooms) (s : Settings) (f : Fields) (store : Store) (r : Reached) (heads : ℕ) → rooms.depth ≡ f.kept.depth → s.max_data ≡ f.kept.most → Shows f store r → heads ≡ heads_of r
    → Held rooms s r (heads + held_by f.kept)
held_as rooms s f store r heads d l h is = record {
  of_set = held_in f.kept.storing;
  walked = held_walked rooms s d l h.frame.pends.walks;
  sum = elim (cases_Bool (is_ended r.progress.state)) [
    | inl e ↦
        let all : held_before_data r ≡ 0 = rw e refl in
        let none : held_in f.kept.storing ≡ 0 = ap held_in (ended_stored f.kept store r.progress _ _ e h.frame.pends) in
        omega (arith, is, heads_ended r e, held_ended f.kept store r.progress r.rest h.frame.pends e, all, none)
    | inr e ↦
        let all : held_before_data r ≡ unfinished r.rest + unfinished (started_pdv r) + of_request r.progress r.rest + of_command (message_so_far r) = rw e refl in
        let heads_are : heads_of r ≡ unfinished r.rest + unfinished (started_pdv r) = rw e refl in
        omega (arith, is, heads_are, held_shown f.kept store r.progress r.rest h.frame.pends e, all)
  ];
}

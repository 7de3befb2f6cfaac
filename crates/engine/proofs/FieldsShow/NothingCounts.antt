-- Fewer than six bytes of a value change nothing that the fields show (`pends_short`), and after the end no bytes of a PDU do
-- (`pends_ended`). Stands on ByState.
use Rattle.std.proofs.Common.{◌≡◌, ◌⊎◌, ℕ, ◌<◌, nat_lt, Bool, true, false, not, ◌&&◌, List, [], length, refl, ap, sym, subst, ◌∙◌, if◌then◌else◌, inl, inr, arith}
use Rattle.std.proofs.lemmas.Grind.{common_steps}
use Rattle.std.proofs.lemmas.Bool.Decides.{nat_tests}
use Rattle.acceptor.specs.declared.state.State.{State}
use Rattle.acceptor.specs.declared.state.State.TheVariants.{Sta1, Sta2, Sta3, Sta6, Sta8, Sta13}
use Rattle.part10.specs.Store.{Store}
use Rattle.dimse.specs.Messages.{Started, NoMessage, InSet}
use Rattle.dimse.specs.Joining.{Joining, ShowsMessage, shown, with_pdv}
use Rattle.engine.specs.Requested.{Requested}
use Rattle.engine.specs.Drafts.{IsDraft, none_due}
use Rattle.engine.specs.Fair.{InStore}
use Rattle.engine.specs.Held.{is_ended}
use Rattle.engine.specs.Progress.{Progress, is_due, is_established}
use Rattle.engine.specs.Reached.{accepts_pdvs}
use Rattle.engine.specs.Kept.{Kept, Pends, counted_pdv, accepts_pdvs_in}
use Rattle.engine.specs.StoredData.{Stored, Nothing, Walks, not_walked, walked, drafting_in}
use Rattle.engine.proofs.FieldsShow.ByState.{ended_is}

-- ---- where no message has started

pub no_store : (request : Requested) (m : Started) → m ≡ NoMessage → InStore request m → ⊥
no_store request m none store = let wrong : NoMessage ≡ InSet store.id store.command store.set = sym none ∙ store.started in cc

pub none_stored : {depth most : ℕ} {request : Requested} {m : Started} {stored : Stored} → m ≡ NoMessage → Walks depth most request m stored → stored ≡ Nothing
none_stored e (not_walked none) = refl
none_stored {request = request} {m = m} e (walked store accepts) = absurd (no_store request m e store)

pub walks_none : (depth most : ℕ) (request : Requested) (m : Started) → m ≡ NoMessage → Walks depth most request m Nothing
walks_none depth most request m e = not_walked (no_store request m e)

pub draft_none : (request : Requested) (m : Started) (failed : Bool) (store : Store) → m ≡ NoMessage → IsDraft request m failed store false
draft_none request m failed store e = none_due (λ file due. no_store request m e due.store)

-- ---- after the end nothing of a PDU counts

quiet : (m n : Started) → m ≡ NoMessage → (n ≡ m) ⊎ (n ≡ NoMessage) → n ≡ NoMessage
quiet m n e (inl x) = x ∙ e
quiet m n e (inr x) = x

ended_body : (st : State) (r : Bool) (xs : List ℕ) → is_ended st ≡ true → (if is_due st && not r then xs else []) ≡ []
ended_body st r xs e = ap (λ (x : State). if is_due x && not r then xs else []) (ended_is st e)

pub ended_pdv : (st : State) (r : Bool) (xs : List ℕ) → is_ended st ≡ true → (if is_established st && not r then xs else []) ≡ []
ended_pdv st r xs e = ap (λ (x : State). if is_established x && not r then xs else []) (ended_is st e)

pub ended_unestablished : (st : State) → is_ended st ≡ true → is_established st ≡ false
ended_unestablished st e = ap is_established (ended_is st e)

-- no message is so far
ended_message : (p : Progress) (started : List ℕ) → is_ended p.state ≡ true → p.message ≡ NoMessage → with_pdv (counted_pdv p started) p.message ≡ NoMessage
ended_message p started e none = ap (λ (xs : List ℕ). with_pdv xs p.message) (ended_pdv p.state p.refused started e) ∙ none

pub ended_stored : (k : Kept) (store : Store) (p : Progress) (body started : List ℕ) → is_ended p.state ≡ true → Pends k store p body started → k.storing ≡ Nothing
ended_stored k store p body started e h = none_stored (ended_message p started e (h.none_remaining (ended_unestablished p.state e))) h.walks

pub pends_ended : (k : Kept) (store other : Store) (p q : Progress) (body started body2 started2 : List ℕ) → is_ended p.state ≡ true → q.state ≡ p.state
    → q.decided ≡ p.decided → (q.message ≡ p.message) ⊎ (q.message ≡ NoMessage) → Pends k store p body started → Pends k other q body2 started2
pends_ended k store other p q body started body2 started2 e same reported m h =
    let end : is_ended q.state ≡ true = ap is_ended same ∙ e in
    let none : q.message ≡ NoMessage = quiet p.message q.message (h.none_remaining (ended_unestablished p.state e)) m in
    let so_far : with_pdv (counted_pdv q started2) q.message ≡ NoMessage = ended_message q started2 end none in
    let nothing : k.storing ≡ Nothing = ended_stored k store p body started e h in
    record {
      state_is = h.state_is ∙ sym same;
      refused_is = λ n. let x : true ≡ false = sym end ∙ n in absurd cc;
      decided_is = h.decided_is ∙ sym reported;
      body_is = h.body_is ∙ ended_body p.state p.refused body e ∙ sym (ended_body q.state q.refused body2 end);
      join_is = subst (λ (m : Started). ShowsMessage k.room k.join m (counted_pdv q started2)) (h.none_remaining (ended_unestablished p.state e) ∙ sym none)
          (subst (λ (xs : List ℕ). ShowsMessage k.room k.join p.message xs) (ended_pdv p.state p.refused started e ∙ sym (ended_pdv q.state q.refused started2 end)) h.join_is);
      agreed = λ six. let x : is_ended Sta6 ≡ true = sym (ap is_ended six) ∙ end in absurd cc;
      none_remaining = λ u. none;
      unagreed = λ _. h.unagreed (ended_unestablished p.state e);
      failed_in = λ n. let x : true ≡ false = sym end ∙ n in absurd cc;
      walks = subst (λ (x : Stored). Walks k.depth k.most q.request (with_pdv (counted_pdv q started2) q.message) x) (sym nothing) (walks_none k.depth k.most q.request _ so_far);
      draft = subst (λ (x : Stored). IsDraft q.request (with_pdv (counted_pdv q started2) q.message) q.filing_failed other (drafting_in x)) (sym nothing) (draft_none q.request _ q.filing_failed other so_far);
    }

-- ---- fewer than the six bytes of its head change nothing

if_short : (t : Bool) (b : List ℕ) → length b < 6 → length (if t then b else []) < 6
if_short t b h = grind (arith, common_steps)

counted_short : (p : Progress) (b : List ℕ) → length b < 6 → length (counted_pdv p b) < 6
counted_short p b l = if_short (accepts_pdvs p) b l

is_short : (n : ℕ) → n < 6 → nat_lt n 6 ≡ true
is_short n l = grind (arith, nat_tests)

pub with_short : (m : Started) (b : List ℕ) → length b < 6 → with_pdv b m ≡ m
with_short m b l = rw (is_short (length b) l) refl

shown_short : (m : Started) (b : List ℕ) → length b < 6 → shown (with_pdv b m) b ≡ shown m []
shown_short m b l = rw (is_short (length b) l) refl

shows_short : (room : ℕ) (join : Joining) (m : Started) (b c : List ℕ) → length b < 6 → length c < 6 → ShowsMessage room join m b → ShowsMessage room join m c
shows_short room join m b c l n h = record { shows = h.shows ∙ shown_short m b l ∙ sym (shown_short m c n); accepted = λ six. absurd (omega (arith, six, n)) }

pub pends_short : (k : Kept) (store : Store) (p : Progress) (body b c : List ℕ) → length b < 6 → length c < 6 → Pends k store p body b → Pends k store p body c
pends_short k store p body b c l m h =
    let first : length (counted_pdv p b) < 6 = counted_short p b l in
    let second : length (counted_pdv p c) < 6 = counted_short p c m in
    let same : with_pdv (counted_pdv p b) p.message ≡ with_pdv (counted_pdv p c) p.message = with_short p.message (counted_pdv p b) first ∙ sym (with_short p.message (counted_pdv p c) second) in
    record {
      state_is = h.state_is;
      refused_is = h.refused_is;
      decided_is = h.decided_is;
      body_is = h.body_is;
      join_is = shows_short k.room k.join p.message (counted_pdv p b) (counted_pdv p c) first second h.join_is;
      agreed = h.agreed;
      none_remaining = h.none_remaining;
      unagreed = h.unagreed;
      failed_in = h.failed_in;
      walks = subst (λ (x : Started). Walks k.depth k.most p.request x k.storing) same h.walks;
      draft = subst (λ (x : Started). IsDraft p.request x p.filing_failed store (drafting_in k.storing)) same h.draft;
    }

-- ---- whether PDVs count

accepts_by : (st : State) (a b : Bool) → (is_ended st ≡ false → a ≡ b) → (is_established st && not a) ≡ (is_established st && not b)
accepts_by Sta1 a b h = refl
accepts_by Sta2 a b h = refl
accepts_by Sta3 a b h = refl
accepts_by Sta6 a b h = ap not (h refl)
accepts_by Sta8 a b h = refl
accepts_by Sta13 a b h = refl

pub accepts_shown : (k : Kept) (store : Store) (p : Progress) (body started : List ℕ) → Pends k store p body started → accepts_pdvs_in k ≡ accepts_pdvs p
accepts_shown k store p body started h = ap (λ (x : State). is_established x && not k.refused) h.state_is ∙ accepts_by p.state k.refused p.refused h.refused_is

-- The fields keep as many bytes as the timeline has led to (`held_shown`), and none once the association has ended
-- (`held_ended`). Stands on FieldsShow.
use Rattle.std.proofs.Common.{◌≡◌, ℕ, ◌+◌, ◌-◌, ◌*◌, Bool, true, false, not, ◌&&◌, List, [], length, drop, nat_eq, refl, ap, ◌∙◌, arith, if◌then◌else◌}
use Rattle.std.proofs.lemmas.Grind.{common_steps}
use Rattle.std.proofs.lemmas.List.{length-drop}
use Rattle.acceptor.specs.declared.state.State.{State}
use Rattle.acceptor.specs.declared.state.State.TheVariants.{Sta1, Sta2, Sta3, Sta6, Sta8, Sta13}
use Rattle.pdu.specs.Marks.{frame_kind}
use Rattle.engine.specs.Requested.{request_record}
use Rattle.pdu.specs.Spot.{spot}
use Rattle.dimse.specs.Messages.{Started}
use Rattle.dimse.specs.Joining as joining
use Rattle.dimse.specs.Joining.{Joining, command_bytes}
use Rattle.engine.specs.Progress.{Progress, is_due, is_established}
use Rattle.engine.specs.Reached.{started_in, message_so_far}
use Rattle.engine.specs.Held.{is_ended, of_request, of_accepted, of_command}
use Rattle.engine.specs.Kept.{Kept, Pends, counted_pdv, body_in, held_by}
use Rattle.engine.specs.StoredData.{Stored, held_in}
use Rattle.part10.specs.Store.{Store}
use Rattle.engine.proofs.FieldsShow.NothingCounts.{ended_unestablished, ended_stored, ended_pdv}
use Rattle.engine.proofs.FieldsShow.ByState.{ended_is}

command_size : (m : Started) → length (command_bytes m) ≡ of_command m
command_size m = grind (arith, common_steps)

command_kept : (k : Kept) (store : Store) (p : Progress) (body started : List ℕ) → Pends k store p body started → length k.join.command ≡ of_command (joining.with_pdv (counted_pdv p started) p.message)
command_kept k store p body started h = ap (λ (j : Joining). length j.command) h.join_is.shows ∙ command_size (joining.with_pdv (counted_pdv p started) p.message)

-- of a request: by the state
kept_of_request : (st : State) (r one : Bool) (table body : ℕ) (xs rest : List ℕ) → is_ended st ≡ false → length xs ≡ length rest - 6
    → (if is_established st then 20 + 4 * table else 0) + length (if is_due st && not r then (if one then xs else []) else [])
    ≡ (if is_due st then (if not r && one then length rest - 6 else 0) else (if is_established st then 20 + 4 * table else 0))
kept_of_request st r one table body xs rest h k = grind (arith, common_steps)

-- after the end
nothing_kept : (st : State) (r : Bool) (table : ℕ) (xs : List ℕ) → is_ended st ≡ true
    → (if is_established st then 20 + 4 * table else 0) + length (if is_due st && not r then xs else []) ≡ 0
nothing_kept st r table xs e = ap (λ (x : State). (if is_established x then 20 + 4 * table else 0) + length (if is_due x && not r then xs else [])) (ended_is st e)

module _ (k : Kept) (store : Store) (p : Progress) (rest : List ℕ) (h : Pends k store p (body_in (frame_kind rest) (drop 6 rest)) (started_in (spot rest))) where
  accepted_size : (st : State) → p.state ≡ st → (if is_established st then 20 + 4 * length k.table else 0) ≡ (if is_established st then of_accepted (request_record p.request) else 0)
  accepted_size Sta1 e = refl
  accepted_size Sta2 e = refl
  accepted_size Sta3 e = refl
  accepted_size Sta6 e = ap (λ (n : ℕ). 20 + 4 * n) (h.agreed e).count
  accepted_size Sta8 e = refl
  accepted_size Sta13 e = refl

  pub held_shown : is_ended p.state ≡ false → held_by k ≡ of_request p rest + of_command (message_so_far (record { progress = p; rest = rest })) + held_in k.storing
  held_shown n =
      let sizes = kept_of_request p.state p.refused (nat_eq (frame_kind rest) 1) (length k.table) 0 (drop 6 rest) rest n (length-drop 6 rest) in
      let accepted = ap (λ (x : ℕ). if is_due p.state then (if not p.refused && nat_eq (frame_kind rest) 1 then length rest - 6 else 0) else x) (accepted_size p.state refl) in
      let of_state = ap (λ (st : State). (if is_established st then 20 + 4 * length k.table else 0) + length k.body + length k.join.command + held_in k.storing) h.state_is in
      let of_body = ap (λ (b : List ℕ). (if is_established p.state then 20 + 4 * length k.table else 0) + length b + length k.join.command + held_in k.storing) h.body_is in
      of_state ∙ of_body ∙ ap (λ (x : ℕ). x + length k.join.command + held_in k.storing) (sizes ∙ accepted)
      ∙ ap (λ (x : ℕ). of_request p rest + x + held_in k.storing) (command_kept k store p (body_in (frame_kind rest) (drop 6 rest)) (started_in (spot rest)) h)

  pub held_ended : is_ended p.state ≡ true → held_by k ≡ 0
  held_ended e =
      let none = h.none_remaining (ended_unestablished p.state e) in
      let quiet = ended_pdv p.state p.refused (started_in (spot rest)) e in
      let command = command_kept k store p (body_in (frame_kind rest) (drop 6 rest)) (started_in (spot rest)) h
      ∙ ap (λ (xs : List ℕ). of_command (joining.with_pdv xs p.message)) quiet ∙ ap of_command none in
      let of_state = ap (λ (st : State). (if is_established st then 20 + 4 * length k.table else 0) + length k.body + length k.join.command + held_in k.storing) h.state_is in
      let of_body = ap (λ (b : List ℕ). (if is_established p.state then 20 + 4 * length k.table else 0) + length b + length k.join.command + held_in k.storing) h.body_is in
      of_state ∙ of_body ∙ ap (λ (x : ℕ). x + length k.join.command + held_in k.storing) (nothing_kept p.state p.refused (length k.table) (body_in (frame_kind rest) (drop 6 rest)) e)
      ∙ ap (λ (x : ℕ). 0 + x + held_in k.storing) command ∙ ap (λ (x : Stored). 0 + 0 + held_in x) (ended_stored k store p _ _ e h)

-- What a connection left that has ended is kept, once, beside what those before it left.
use Rattle.std.proofs.Common.{◌≡◌, ◌≢◌, ℕ, ◌≤◌, ◌-◌, arith, length-append, Bool, true, false, is_some, refl, sym, ap, subst, ◌∙◌, List, [], ◌∷◌, ◌++◌, length, map, Option, None, Some}
use Rattle.std.proofs.Math.Logic.{∥∥₁_elim, ∥∥₁_map, ∥∥₁_prop}
use Rattle.std.proofs.lemmas.List.{append-nil, map-append, take-append-le}
use Rattle.std.proofs.lemmas.List.Elements.{All-push, All-take}
use Rattle.std.specs.List.{All, AllZip}
use Rattle.part10.specs.Store.{Store}
use Rattle.negotiate.specs.Settings.{Settings}
use Rattle.serving.specs.Causes.{IsCaused}
use Rattle.serving.specs.Served.{IsServed}
use Rattle.serving.specs.Settled.{SettlesFirst, sent_by}
use Rattle.serving.specs.Timed.{GivenInTime, asked_at}
use Rattle.serving.specs.TimeLimits.{TimeLimits, had_reasons, opened_at}
use Rattle.serving.specs.declared.open_connection.ConnectionEnd.{ConnectionEnd}
use Rattle.server.specs.declared.socket.Socket.{Socket}
use Rattle.server.specs.declared.server.opening.history.SlotHistory.{SlotHistory}
use Rattle.server.specs.Configuration.{Configuration, with_settings}
use Rattle.server.specs.Histories.{AllButLast, ClosedBy, EachClosed, ended_in, opened_in, opened_over, settings_in}
use Rattle.server.specs.machine.Slots.{HaveEnded, seen_of}

-- what is seen of the connection that is there
pub seen_there : {T A : Type 0} (there : Option T) (x : T) (see other : T → A) → there ≡ Some x → seen_of there see ≡ seen_of there other → see x ≡ other x
seen_there there x see other is e = ap (first_or (see x)) (subst (λ o. seen_of o see ≡ seen_of o other) is e)
  where
    first_or : {A : Type 0} → A → List A → A
    first_or x [] = x
    first_or x (y ∷ ys) = y

pub one_of : {A : Type 0} (x y : A) → x ∷ [] ≡ y ∷ [] → x ≡ y
one_of x y e = cc

-- none is there that is configured by anything
pub none_held : {T A : Type 0} (now : Option T) (see other : T → A) → now ≡ None → seen_of now see ≡ seen_of now other
none_held now see other is = subst (λ o. seen_of o see ≡ seen_of o other) (sym is) refl

-- the one that was opened has these settings
pub held_now : {T : Type 0} (now : Option T) (connection : T) (see : T → Configuration) (t : Configuration) → now ≡ Some connection → see connection ≡ t → seen_of now see ≡ seen_of now (λ c. t)
held_now now connection see t is e = subst (λ o. seen_of o see ≡ seen_of o (λ c. t)) (sym is) (ap (λ (u : Configuration). u ∷ []) e)

pub configuration_as : (t : Configuration) (settings s : Settings) (initial : TimeLimits) (artim idle : ℕ) (longest : Option ℕ) (now : ℕ) → settings ≡ s → initial ≡ opened_at artim idle longest now → record { settings = s; artim = artim; idle = idle; longest = longest } ≡ t
    → record { settings = settings; artim = initial.artim; idle = initial.idle; longest = initial.longest } ≡ t
configuration_as t settings s initial artim idle longest now e f h = rw (e, f) h

-- a connection left what its settings give, where it was closed so
pub remaining_by : {F : Type 0} (store : F → Store) (has_pending : F → Bool) (t : Configuration) (e : ConnectionEnd Socket F) (filing : F) (s : Settings) (initial : TimeLimits) (stopped : Bool)
    → record { settings = s; artim = initial.artim; idle = initial.idle; longest = initial.longest } ≡ t → e.opened.value ≡ filing → e.initial.value ≡ initial → e.is_stopped ≡ stopped
    → initial ≡ opened_at initial.artim initial.idle initial.longest initial.opened → ∥ IsServed s e.exchange (store filing) (store e.filing) ∥₁
    → ∥ SettlesFirst s e.exchange (store filing) (store e.settled.value) (store e.filing) ∥₁ → (sent_by e.exchange ≢ [] → has_pending e.settled.value ≡ false) → ∥ GivenInTime s e.exchange (store filing) (store e.filing) initial e.moments ∥₁
    → length (asked_at e.moments) ≤ 1 → had_reasons stopped initial.longest initial.opened (asked_at e.moments) ≡ true → ClosedBy store has_pending t e
remaining_by store has_pending t e filing s initial stopped is opened from stop begins remaining sent rested in_time once reasons = subst (λ (u : Configuration). ClosedBy store has_pending u e) is (record {
  served = rw opened remaining;
  sent = rw opened sent;
  rested = rested;
  initial = rw from begins;
  in_time = rw (opened, from) in_time;
  once = once;
  reasons = rw (from, stop) reasons;
})

-- one pair more is related
zip_more : {A B : Type 0} (R : A → B → Type 0) (xs : List A) (ys : List B) (x : A) (y : B) → AllZip R xs ys → R x y → AllZip R (xs ++ x ∷ []) (ys ++ y ∷ [])
zip_more R [] [] x y zip r = (r, tt)
zip_more R [] (b ∷ ys) x y zip r = absurd zip
zip_more R (a ∷ xs) [] x y zip r = absurd zip
zip_more R (a ∷ xs) (b ∷ ys) x y zip r = (zip.0, zip_more R xs ys x y zip.1 r)

-- and another one follows
all_but_last : {A : Type 0} (P : A → Type 0) (xs : List A) (x : A) → All P xs → AllButLast P (xs ++ x ∷ [])
all_but_last P xs x all =
    let n : ℕ = length (xs ++ x ∷ []) - 1 in
    subst (All P) (sym (take-append-le n xs (x ∷ []) (omega (arith, length-append xs (x ∷ []))))) (All-take P n xs all)

-- one connection has ended
pub one_ended : {F due : Type 0} (store : F → Store) (has_pending : F → Bool) (allows : Settings → Type 0) (t : Configuration) (old new : SlotHistory F) (s : Settings) (e : ConnectionEnd Socket F) (filing : F)
    → opened_in new ≡ opened_in old → settings_in new ≡ settings_in old ++ s ∷ [] → ended_in new ≡ ended_in old ++ e ∷ [] → e.opened.value ≡ filing
    → ∥ allows s ∥₁ → ClosedBy store has_pending (with_settings t s) e → (due → IsCaused e) → HaveEnded store has_pending allows t due (filing ∷ []) old new
one_ended store has_pending allows t old new s e filing opened settings ended over may by cause =
    let R : Settings → ConnectionEnd Socket _ → Type 0 = λ s e. ClosedBy store has_pending (with_settings t s) e in
    record {
      opened = opened;
      ended = ap (map opened_over) ended ∙ (map-append opened_over (ended_in old) (e ∷ []) ∙ ap (λ f. map opened_over (ended_in old) ++ f ∷ []) over);
      closed = λ was. ∥∥₁_map was (λ each. subst (λ es. AllZip R (settings_in new) es) (sym ended) (subst (λ ss. AllZip R ss (ended_in old ++ e ∷ [])) (sym settings) (zip_more R (settings_in old) (ended_in old) s e each by)));
      allowed = λ was. ∥∥₁_elim may ∥∥₁_prop (λ m. ∥∥₁_map was (λ all. subst (All allows) (sym settings) (All-push allows (settings_in old) s all m)));
      caused = λ due was. ∥∥₁_map was (λ all. subst (All (λ e. IsCaused e)) (sym ended) (All-push (λ e. IsCaused e) (ended_in old) e all (cause due)));
      but_last = λ was. ∥∥₁_map was (λ all. subst (AllButLast (λ e. IsCaused e)) (sym ended) (all_but_last (λ e. IsCaused e) (ended_in old) e all));
    }

-- none has ended
pub none_ended : {F due : Type 0} (store : F → Store) (has_pending : F → Bool) (allows : Settings → Type 0) (t : Configuration) (history : SlotHistory F) → HaveEnded store has_pending allows t due [] history history
none_ended store has_pending allows t history = record {
  opened = refl;
  ended = sym (append-nil (map opened_over (ended_in history)));
  closed = λ was. was;
  allowed = λ was. was;
  caused = λ due was. was;
  but_last = λ was. ∥∥₁_map was (λ all. All-take (λ e. IsCaused e) (length (ended_in history) - 1) (ended_in history) all);
}

-- one connection more was opened, after the one before it has ended
pub opened_next : {F T due : Type 0} (see : T → F) (store : F → Store) (has_pending : F → Bool) (allows : Settings → Type 0) (t : Configuration) (old noted new : SlotHistory F) (filing : F) (there had now : Option T) (connection : T)
    → opened_in old ≡ map opened_over (ended_in old) ++ seen_of there see → had ≡ there
    → opened_in noted ≡ opened_in old ++ filing ∷ [] → ended_in noted ≡ ended_in old
    → HaveEnded store has_pending allows t due (seen_of had see) noted new → now ≡ Some connection → see connection ≡ filing → opened_in new ≡ map opened_over (ended_in new) ++ seen_of now see
opened_next see store has_pending allows t old noted new filing there had now connection none same opened ended ends is over =
    let before : seen_of there see ≡ seen_of had see = ap (λ o. seen_of o see) (sym same) in
    let all : opened_in old ≡ map opened_over (ended_in new) = none ∙ (ap (λ fs. map opened_over (ended_in old) ++ fs) before ∙ sym (ends.ended ∙ ap (λ es. map opened_over es ++ seen_of had see) ended)) in
    let last : seen_of now see ≡ filing ∷ [] = ap (λ o. seen_of o see) is ∙ ap (λ f. f ∷ []) over in
    ends.opened ∙ (opened ∙ (ap (λ fs. fs ++ filing ∷ []) all ∙ ap (λ fs. map opened_over (ended_in new) ++ fs) (sym last)))

-- and each has left what its settings give
pub still_remaining : {F due : Type 0} (store : F → Store) (has_pending : F → Bool) (allows : Settings → Type 0) (t : Configuration) (openings : List F) (old noted new : SlotHistory F)
    → settings_in noted ≡ settings_in old → ended_in noted ≡ ended_in old → HaveEnded store has_pending allows t due openings noted new → ∥ EachClosed store has_pending t old ∥₁ → ∥ EachClosed store has_pending t new ∥₁
still_remaining store has_pending allows t openings old noted new settings ended ends was =
    let R : Settings → ConnectionEnd Socket _ → Type 0 = λ s e. ClosedBy store has_pending (with_settings t s) e in
    ends.closed (subst (λ es. ∥ AllZip R (settings_in noted) es ∥₁) (sym ended) (subst (λ ss. ∥ AllZip R ss (ended_in old) ∥₁) (sym settings) was))

-- and each had settings that are allowed
pub still_allowed : {F due : Type 0} (store : F → Store) (has_pending : F → Bool) (allows : Settings → Type 0) (t : Configuration) (openings : List F) (old noted new : SlotHistory F)
    → settings_in noted ≡ settings_in old → HaveEnded store has_pending allows t due openings noted new → ∥ All allows (settings_in old) ∥₁ → ∥ All allows (settings_in new) ∥₁
still_allowed store has_pending allows t openings old noted new settings ends was = ends.allowed (subst (λ ss. ∥ All allows ss ∥₁) (sym settings) was)

-- and each was closed for a cause
pub still_caused : {F due : Type 0} (store : F → Store) (has_pending : F → Bool) (allows : Settings → Type 0) (t : Configuration) (openings : List F) (old noted new : SlotHistory F)
    → ended_in noted ≡ ended_in old → HaveEnded store has_pending allows t due openings noted new → due → ∥ All (λ e. IsCaused e) (ended_in old) ∥₁ → ∥ All (λ e. IsCaused e) (ended_in new) ∥₁
still_caused store has_pending allows t openings old noted new ended ends due was = ends.caused due (subst (λ es. ∥ All (λ e. IsCaused e) es ∥₁) (sym ended) was)

-- none was there
pub none_there : {T A : Type 0} (there last : Option T) (see other : T → A) → is_some there ≡ false → last ≡ there → seen_of last see ≡ seen_of last other
none_there None last see other none is = none_held last see other is
none_there (Some x) last see other none is = absurd cc

-- the settings of an association can be replaced
pub renewed : (c t : Configuration) (s new : Settings) → with_settings c s ≡ with_settings t s → with_settings c new ≡ with_settings t new
renewed c t s new is = ap (λ (u : Configuration). with_settings u new) is

-- none is there any more, and the one that was has ended
pub none_remaining : {F T due : Type 0} (see : T → F) (store : F → Store) (has_pending : F → Bool) (allows : Settings → Type 0) (t : Configuration) (old new : SlotHistory F) (there had now : Option T)
    → opened_in old ≡ map opened_over (ended_in old) ++ seen_of there see → had ≡ there → HaveEnded store has_pending allows t due (seen_of had see) old new → now ≡ None
    → opened_in new ≡ map opened_over (ended_in new) ++ seen_of now see
none_remaining see store has_pending allows t old new there had now none same ends is =
    let before : seen_of there see ≡ seen_of had see = ap (λ o. seen_of o see) (sym same) in
    let all : opened_in old ≡ map opened_over (ended_in new) = none ∙ (ap (λ fs. map opened_over (ended_in old) ++ fs) before ∙ sym ends.ended) in
    let empty : [] ≡ seen_of now see = ap (λ o. seen_of o see) (sym is) in
    ends.opened ∙ (all ∙ (sym (append-nil (map opened_over (ended_in new))) ∙ ap (λ fs. map opened_over (ended_in new) ++ fs) empty))

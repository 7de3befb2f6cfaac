-- The fault of a part is a fault of the whole: after a text that was consumed (`bad_after`, `breaks_after`), at the end
-- (`bad_end`), and at once (`breaks_at`). Stands on the definitions alone.
use Rattle.std.proofs.Common.{◌≡◌, ℕ, List, ◌++◌, Option, Some, None, IfSome, sym, subst, ap, ◌∙◌}
use Rattle.std.proofs.lemmas.List.{append-nil}
use Rattle.std.specs.Io.KnownBytes.{Consumes, IsAtEnd}
use Rattle.part10.specs.declared.meta_fault.MetaFault.{MetaFault}
use Rattle.part10.specs.declared.meta_fault.MetaFault.TheVariants.{NotPart10, BadMeta, OtherSyntax, ReadFailed}
use Rattle.part10.specs.machine.Reading.{Breaks}

-- what holds whatever is left
pub bad_any : (old : Option (List ℕ)) (Q : List ℕ → Type 0) → ((rest : List ℕ) → Q rest) → IfSome old Q
bad_any None Q f = tt
bad_any (Some rest) Q f = f rest

-- after a text that was consumed
pub bad_after : (old mid : Option (List ℕ)) (text : List ℕ) (Q : List ℕ → Type 0) → Consumes old mid text → ((rest : List ℕ) → Q (text ++ rest)) → IfSome old Q
bad_after None mid text Q consumed f = tt
bad_after (Some file) None text Q consumed f = absurd consumed
bad_after (Some file) (Some rest) text Q consumed f = subst Q (sym consumed) (f rest)

-- after a text that was all
pub bad_end : (old mid : Option (List ℕ)) (text : List ℕ) (Q : List ℕ → Type 0) → Consumes old mid text → IsAtEnd mid → Q text → IfSome old Q
bad_end None mid text Q consumed end q = tt
bad_end (Some file) None text Q consumed end q = absurd consumed
bad_end (Some file) (Some rest) text Q consumed end q = subst Q (sym (consumed ∙ (ap (λ z. text ++ z) end ∙ append-nil text))) q

-- a part that failed after a text that was consumed
pub breaks_after : (fault : MetaFault) (old mid : Option (List ℕ)) (text : List ℕ) (P Q : List ℕ → Type 0) → Consumes old mid text → Breaks fault mid P
    → ((rest : List ℕ) → P rest → Q (text ++ rest)) → Breaks fault old Q
breaks_after ReadFailed old mid text P Q consumed b f = tt
breaks_after NotPart10 old mid text P Q consumed b f = absurd b
breaks_after OtherSyntax old mid text P Q consumed b f = absurd b
breaks_after BadMeta None mid text P Q consumed b f = tt
breaks_after BadMeta (Some file) None text P Q consumed b f = absurd consumed
breaks_after BadMeta (Some file) (Some rest) text P Q consumed b f = subst Q (sym consumed) (f rest b)

-- a part that failed at once
pub breaks_at : (fault : MetaFault) (old : Option (List ℕ)) (P Q : List ℕ → Type 0) → Breaks fault old P → ((rest : List ℕ) → P rest → Q rest) → Breaks fault old Q
breaks_at ReadFailed old P Q b f = tt
breaks_at NotPart10 old P Q b f = absurd b
breaks_at OtherSyntax old P Q b f = absurd b
breaks_at BadMeta None P Q b f = tt
breaks_at BadMeta (Some rest) P Q b f = f rest b

-- a failed read is a fault of any part
pub read_failed : (fault : MetaFault) (old : Option (List ℕ)) (Q : List ℕ → Type 0) → fault ≡ ReadFailed → Breaks fault old Q
read_failed fault old Q e = subst (λ z. Breaks z old Q) (sym e) tt

-- The transfer syntaxes that are returned are those that are asked for: all (`asks_all`), or those that are named
-- (`asks_named`). What is read of texts is what is read of values that they have (`map_now`). Stands on the definitions
-- alone.
use Rattle.std.proofs.Common.{◌≡◌, ◌∙◌, ℕ, Bool, true, false, List, [], ◌∷◌, Some, map, Bor, refl, sym, ap}
use Rattle.dictionary.specs.declared.transfer.Transfer.{Transfer}
use Rattle.dictionary.specs.Transfers.{encapsulated_transfers, transfer_of}
use Rattle.arguments.specs.Asked.{AsksFor}

map_twice : {A B C : Type 0} (f : A → B) (g : B → C) (xs : List A) → map g (map f xs) ≡ map (λ x. g (f x)) xs
map_twice f g [] = refl
map_twice f g (x ∷ xs) = ap (λ r. g (f x) ∷ r) (map_twice f g xs)

pub map_now : {B : Type 0} (f : List ℕ → B) (texts : List (Bor (List ℕ))) (values : List (List ℕ)) → map (λ t. t.now) texts ≡ values
    → map f values ≡ map (λ t. f t.now) texts
map_now f texts values are = ap (map f) (sym are) ∙ map_twice (λ t. t.now) f texts

pub asks_all : (all : Bool) (values : List (List ℕ)) (texts : List (Bor (List ℕ))) (named transfers : List Transfer) → map (λ t. t.now) texts ≡ values → all ≡ true
    → map (λ t. transfer_of t.now) texts ≡ map Some named → transfers ≡ encapsulated_transfers → AsksFor all values transfers
asks_all true values texts named transfers are is read accepted = record { named = named; each = map_now transfer_of texts values are ∙ read; accepted = accepted }
asks_all false values texts named transfers are is read accepted = absurd cc

pub asks_named : (all : Bool) (values : List (List ℕ)) (texts : List (Bor (List ℕ))) (named transfers : List Transfer) → map (λ t. t.now) texts ≡ values → all ≡ false
    → map (λ t. transfer_of t.now) texts ≡ map Some named → transfers ≡ named → AsksFor all values transfers
asks_named false values texts named transfers are is read accepted = record { named = named; each = map_now transfer_of texts values are ∙ read; accepted = accepted }
asks_named true values texts named transfers are is read accepted = absurd cc

-- A file more, with a row (`row_more`) or with a reason why it has none (`reason_more`), is one more of the files (`one_more`).
-- Stands on the definitions alone.
use Rattle.std.proofs.Common.{ℕ, List, [], ◌∷◌, ◌++◌, map, sym, subst, append_assoc}
use Rattle.std.specs.Prelude.{IsPermutation}
use Rattle.std.proofs.lemmas.List.{map-append}
use Rattle.std.proofs.lemmas.List.Sorted.{IsPermutation-trans, IsPermutation-sym, IsPermutation-middle, IsPermutation-append_left, IsPermutation-to_front}
use Rattle.dicomdir_writing.specs.Row.{Row}
use Rattle.index_command.specs.Sharing.{files_of}
use Rattle.index_command.specs.declared.contents.Skipped.{Skipped}

at_end_of_first : (one other : List (List ℕ)) (id : List ℕ) → IsPermutation (id ∷ (one ++ other)) ((one ++ id ∷ []) ++ other)
at_end_of_first one other id = IsPermutation-append_left other (id ∷ one) (one ++ id ∷ []) (IsPermutation-sym _ _ (IsPermutation-to_front one id))

at_end : (one other : List (List ℕ)) (id : List ℕ) → IsPermutation (id ∷ (one ++ other)) (one ++ (other ++ id ∷ []))
at_end one other id = subst (IsPermutation (id ∷ (one ++ other))) (append_assoc one other (id ∷ [])) (IsPermutation-sym _ _ (IsPermutation-to_front (one ++ other) id))

pub row_more : (rows : List Row) (skipped : List Skipped) (row : Row) → IsPermutation (row.file_id ∷ files_of rows skipped) (files_of (rows ++ row ∷ []) skipped)
row_more rows skipped row =
    subst (λ (front : List (List ℕ)). IsPermutation (row.file_id ∷ files_of rows skipped) (front ++ map (λ file. file.id) skipped)) (sym (map-append (λ row. row.file_id) rows (row ∷ [])))
    (at_end_of_first (map (λ row. row.file_id) rows) (map (λ file. file.id) skipped) row.file_id)

pub reason_more : (rows : List Row) (skipped : List Skipped) (file : Skipped) → IsPermutation (file.id ∷ files_of rows skipped) (files_of rows (skipped ++ file ∷ []))
reason_more rows skipped file =
    subst (λ (end : List (List ℕ)). IsPermutation (file.id ∷ files_of rows skipped) (map (λ row. row.file_id) rows ++ end)) (sym (map-append (λ file. file.id) skipped (file ∷ [])))
    (at_end (map (λ row. row.file_id) rows) (map (λ file. file.id) skipped) file.id)

pub one_more : (ids files more rest : List (List ℕ)) (id : List ℕ) → IsPermutation ids (files ++ id ∷ rest) → IsPermutation (id ∷ files) more → IsPermutation ids (more ++ rest)
one_more ids files more rest id so_far next = IsPermutation-trans _ _ _ so_far (IsPermutation-trans _ _ _ (IsPermutation-middle files id rest) (IsPermutation-append_left rest (id ∷ files) more next))

use Rattle.std.proofs.Common.{◌∙◌, ℕ, ap, ap₂, sym, refl}
use Rattle.std.proofs.lemmas.Result.{err_from_is_err_and, on_ok_weaker, on_err_weaker}
use Rattle.std.proofs.KnownBytes.{Appends-trans}
use Rattle.dicomdir_writing.specs.Built.{directory_file}
use Rattle.dicomdir_writing.specs.machine.Building.{root_text}
use Rattle.dicomdir_writing.proofs.DirectoryHasItsText.{file_text, front_after, front_more}
use Rattle.dicomdir_writing.proofs.built.write_dir.Goals as goal

pub returns-in_err-write_all-clause-front : goal.returns-in_err-write_all-clause-front
returns-in_err-write_all-clause-front g c =
    let p = err_from_is_err_and c.from_residual.result c.from_residual.ensures.1 in
    let whole = ap directory_file (sym c.built.view_is) ∙ file_text c.built.invariant (c.as_slice.ensures.value ∙ c.file_header-header.ensures.bytes) refl in
    rw (p.1, whole) (front_more _ _ c.as_slice.result.now _ c.in_err-write_all.ensures.front)

pub returns-in_err-write_all-2-clause-front : goal.returns-in_err-write_all-2-clause-front
returns-in_err-write_all-2-clause-front g c =
    let p = err_from_is_err_and c.from_residual-in_err-write_all-2.result c.from_residual-in_err-write_all-2.ensures.1 in
    let root = c.as_slice-2.ensures.value ∙ c.root_bytes-root.ensures ∙ ap₂ (λ (x y : ℕ). root_text x y c.built.inside.plan.size) c.offset_of-first.ensures c.offset_of-last.ensures in
    let whole = ap directory_file (sym c.built.view_is) ∙ file_text c.built.invariant (c.as_slice.ensures.value ∙ c.file_header-header.ensures.bytes) root in
    rw (p.1, whole)
    (front_after _ _ _ c.as_slice.result.now _ c.in_ok-write_all.ensures.all (front_more _ _ c.as_slice-2.result.now _ c.in_err-write_all-2.ensures.front))

pub returns-clause-all : goal.returns-clause-all
returns-clause-all g c =
    let root = c.as_slice-2.ensures.value ∙ c.root_bytes-root.ensures ∙ ap₂ (λ (x y : ℕ). root_text x y c.built.inside.plan.size) c.offset_of-first.ensures c.offset_of-last.ensures in
    let whole = ap directory_file (sym c.built.view_is) ∙ file_text c.built.invariant (c.as_slice.ensures.value ∙ c.file_header-header.ensures.bytes) root in
    let last = c.as_slice-3.ensures.value in
    rw whole
    (on_ok_weaker c.write_records.result
    (λ more. Appends-trans _ _ _ c.as_slice.result.now _ c.in_ok-write_all.ensures.all (Appends-trans _ _ _ c.as_slice-2.result.now _ c.in_ok-write_all-2.ensures.all more))
    (rw last at c.write_records.ensures.all))

pub returns-clause-front : goal.returns-clause-front
returns-clause-front g c =
    let root = c.as_slice-2.ensures.value ∙ c.root_bytes-root.ensures ∙ ap₂ (λ (x y : ℕ). root_text x y c.built.inside.plan.size) c.offset_of-first.ensures c.offset_of-last.ensures in
    let whole = ap directory_file (sym c.built.view_is) ∙ file_text c.built.invariant (c.as_slice.ensures.value ∙ c.file_header-header.ensures.bytes) root in
    let last = c.as_slice-3.ensures.value in
    rw whole
    (on_err_weaker c.write_records.result
    (λ more. front_after _ _ _ c.as_slice.result.now _ c.in_ok-write_all.ensures.all (front_after _ _ _ c.as_slice-2.result.now _ c.in_ok-write_all-2.ensures.all more))
    (rw last at c.write_records.ensures.front))

use Rattle.std.proofs.Common.{[], refl, subst, sym, ap, arith}
use Rattle.std.proofs.lemmas.Result.{err_from_is_err_and}
use Rattle.dicomdir.specs.Directory.{found, records_at}
use Rattle.dicomdir.specs.DirFault.{records_fault}
use Rattle.dicomdir.specs.machine.Trail.{AreEntries, no_entries}
use Rattle.dicomdir.proofs.FaultsAreInOrder.{whole_elements, fails_first, fails_last, fails_without_records, has_records, fails_in_records, fails_in_links, checks_as, are_read, fails_at}
use Rattle.dicomdir.proofs.checking.check_elements.Goals as goal

pub returns-in_err-first_position-clause-fails : goal.returns-in_err-first_position-clause-fails
returns-in_err-first_position-clause-fails g c =
    let p = err_from_is_err_and c.from_residual.result c.from_residual.ensures.1 in
    rw (p.1, p.2)
    (λ es d. fails_first c.args.start es c.in_err-first_position.field-0.0
    (c.in_err-first_position.ensures.fails (found 0x00041200 c.args.start es) (c.find.ensures.found es (whole_elements d))))

pub returns-in_err-last_position-clause-fails : goal.returns-in_err-last_position-clause-fails
returns-in_err-last_position-clause-fails g c =
    let p = err_from_is_err_and c.from_residual-in_err-last_position.result c.from_residual-in_err-last_position.ensures.1 in
    rw (p.1, p.2)
    (λ es d.
    let first = c.in_ok-first_position.ensures.read (found 0x00041200 c.args.start es) (c.find.ensures.found es (whole_elements d)) in
    fails_last c.args.start es c.in_err-last_position.field-0.0 first.good
    (c.in_err-last_position.ensures.fails (found 0x00041202 c.args.start es) (c.find-2.ensures.found es (whole_elements d))))

pub returns-in-Missing-clause-fails : goal.returns-in-Missing-clause-fails
returns-in-Missing-clause-fails g c es d =
    let first = c.in_ok-first_position.ensures.read (found 0x00041200 c.args.start es) (c.find.ensures.found es (whole_elements d)) in
    let last = c.in_ok-last_position.ensures.read (found 0x00041202 c.args.start es) (c.find-2.ensures.found es (whole_elements d)) in
    fails_without_records c.args.start es c.at.result first.good last.good
    (fails_at (records_fault c.args.start (found 0x00041220 c.args.start es)) 68 c.args.start c.at.result c.at.ensures (λ e. omega (arith, e))
    (ap (records_fault c.args.start) (c.in-Missing.ensures.found es (whole_elements d))))

pub returns-in-Value-clause-fails : goal.returns-in-Value-clause-fails
returns-in-Value-clause-fails g c es d =
    let first = c.in_ok-first_position.ensures.read (found 0x00041200 c.args.start es) (c.find.ensures.found es (whole_elements d)) in
    let last = c.in_ok-last_position.ensures.read (found 0x00041202 c.args.start es) (c.find-2.ensures.found es (whole_elements d)) in
    fails_without_records c.args.start es c.at-in-Value.result first.good last.good
    (fails_at (records_fault c.args.start (found 0x00041220 c.args.start es)) 68 c.in-Value.offset c.at-in-Value.result c.at-in-Value.ensures (λ e. omega (arith, e))
    (ap (records_fault c.args.start) (c.in-Value.ensures.found es (whole_elements d))))

pub returns-in_err-read_records-in-Items-clause-fails :
    goal.returns-in_err-read_records-in-Items-clause-fails
returns-in_err-read_records-in-Items-clause-fails g c =
    let p = err_from_is_err_and c.from_residual-in_err-read_records-in-Items.result c.from_residual-in_err-read_records-in-Items.ensures.1 in
    rw (p.1, p.2)
    (λ es d.
    let first = c.in_ok-first_position.ensures.read (found 0x00041200 c.args.start es) (c.find.ensures.found es (whole_elements d)) in
    let last = c.in_ok-last_position.ensures.read (found 0x00041202 c.args.start es) (c.find-2.ensures.found es (whole_elements d)) in
    let finds = c.in-Items.ensures.found es (whole_elements d) in
    fails_in_records c.args.start es _ c.in_err-read_records-in-Items.field-0.0
    (has_records c.in-Items.syntax c.args.start c.in-Items.offset c.in-Items.records_offset es c.in-Items.text.now finds first.good last.good)
    (c.in_err-read_records-in-Items.ensures.fails finds.items finds.text_is))

pub returns-in_err-follow-in-Items-clause-fails : goal.returns-in_err-follow-in-Items-clause-fails
returns-in_err-follow-in-Items-clause-fails g c =
    let p = err_from_is_err_and c.from_residual-in_err-follow-in-Items.result c.from_residual-in_err-follow-in-Items.ensures.1 in
    rw (p.1, p.2)
    (λ es d.
    let first = c.in_ok-first_position.ensures.read (found 0x00041200 c.args.start es) (c.find.ensures.found es (whole_elements d)) in
    let last = c.in_ok-last_position.ensures.read (found 0x00041202 c.args.start es) (c.find-2.ensures.found es (whole_elements d)) in
    let finds = c.in-Items.ensures.found es (whole_elements d) in
    let has = has_records c.in-Items.syntax c.args.start c.in-Items.offset c.in-Items.records_offset es c.in-Items.text.now finds first.good last.good in
    let entries = c.in_ok-read_records-in-Items.ensures.read refl finds.items [] finds.text_is (subst (λ z. AreEntries z []) (sym c.new-records.ensures.items) no_entries) in
    let read = are_read c.args.start c.in-Items.records_offset es finds.items _ c.as_slice.result.now first last (subst (λ z. AreEntries z (records_at c.in-Items.records_offset finds.items)) (sym c.as_slice.ensures.value) entries) in
    fails_in_links c.args.start es _ _ c.as_slice.result.now c.in_err-follow-in-Items.field-0.0 has read c.in_err-follow-in-Items.ensures.fails)

pub returns-in_ok-follow-in-Items-clause-whole : goal.returns-in_ok-follow-in-Items-clause-whole
returns-in_ok-follow-in-Items-clause-whole g c es d =
    let first = c.in_ok-first_position.ensures.read (found 0x00041200 c.args.start es) (c.find.ensures.found es (whole_elements d)) in
    let last = c.in_ok-last_position.ensures.read (found 0x00041202 c.args.start es) (c.find-2.ensures.found es (whole_elements d)) in
    let finds = c.in-Items.ensures.found es (whole_elements d) in
    let has = has_records c.in-Items.syntax c.args.start c.in-Items.offset c.in-Items.records_offset es c.in-Items.text.now finds first.good last.good in
    let entries = c.in_ok-read_records-in-Items.ensures.read refl finds.items [] finds.text_is (subst (λ z. AreEntries z []) (sym c.new-records.ensures.items) no_entries) in
    let read = are_read c.args.start c.in-Items.records_offset es finds.items _ c.as_slice.result.now first last (subst (λ z. AreEntries z (records_at c.in-Items.records_offset finds.items)) (sym c.as_slice.ensures.value) entries) in
    checks_as c.args.start es _ _ c.as_slice.result.now c.new-tree.result.items c.follow.new.tree.items _ has read c.new-tree.ensures.items (c.in_ok-follow-in-Items.ensures.good refl) c.new.ensures

use Rattle.std.proofs.Common.{subst}
use Rattle.std.specs.Io.KnownBytes.{Consumes}
use Rattle.std.proofs.KnownBytes.{Consumes-trans}
use Rattle.std.proofs.lemmas.Result.{err_from_is_err_and}
use Rattle.part10.specs.declared.meta_fault.MetaFault.TheVariants.{BadMeta}
use Rattle.part10.specs.MetaText.{MetaFaultOf}
use Rattle.part10.proofs.PartFailsTheWhole.{breaks_after}
use Rattle.part10.proofs.HeaderConsumedOrRefused.{Whole, breaks_refuse, no_size, no_group_at, consumes_meta, meta_refused, names_other, not_other, letters_not_other}
use Rattle.part10.proofs.reading.read_any_meta.Given.{Over}
use Rattle.part10.proofs.reading.read_any_meta.Goals as goal

pub returns-in_err-size-clause-fault : goal.returns-in_err-size-clause-fault
returns-in_err-size-clause-fault g c =
    let read = c.in_ok-read_letters.ensures.read in
    let letters = subst (λ z. Consumes (g.R.Read.remaining c.args.input.now) (g.R.Read.remaining c.read_letters.new.input) z) read.2.2 read.1 in
    let p = err_from_is_err_and c.from_residual-in_err-size.result c.from_residual-in_err-size.ensures.1 in
    rw (p.1, p.2) (breaks_refuse _ _ (breaks_after _ _ _ _ _ (λ file. MetaFaultOf file BadMeta) letters c.in_err-size.ensures.none (λ rest none. no_size read.2.0 rest read.2.1 none)))

pub returns-in_err-read_group-clause-fault : goal.returns-in_err-read_group-clause-fault
returns-in_err-read_group-clause-fault g c =
    let read = c.in_ok-read_letters.ensures.read in
    let size = c.in_ok-size.ensures in
    let letters = subst (λ z. Consumes (g.R.Read.remaining c.args.input.now) (g.R.Read.remaining c.read_letters.new.input) z) read.2.2 read.1 in
    let consumed = Consumes-trans _ _ _ _ _ letters size.read in
    let p = err_from_is_err_and c.from_residual-in_err-read_group.result c.from_residual-in_err-read_group.ensures.1 in
    rw (p.1, p.2) (breaks_refuse _ _ (breaks_after _ _ _ _ _ (λ file. MetaFaultOf file BadMeta) consumed c.in_err-read_group.ensures.none (λ rest none. no_group_at read.2.0 rest c.in_ok-size.size read.2.1 size.range none)))

whole_of : (g : Over) (c : goal.After-meta g) → Whole c.in_ok-size.size c.in_ok-read_group.field-0 (g.R.Read.remaining c.args.input.now) (g.R.Read.remaining c.read_group.new.input)
whole_of g c =
    let read = c.in_ok-read_letters.ensures.read in
    let size = c.in_ok-size.ensures in
    let group = c.in_ok-read_group.ensures.read in
    let letters = subst (λ z. Consumes (g.R.Read.remaining c.args.input.now) (g.R.Read.remaining c.read_letters.new.input) z) read.2.2 read.1 in
    record {
      preamble = read.2.0;
      group = group.group;
      elements = group.elements;
      preamble_size = read.2.1;
      small = size.range;
      count = group.counted;
      consumed = Consumes-trans _ _ _ _ _ (Consumes-trans _ _ _ _ _ letters size.read) group.consumed;
      spelled = group.spelled;
      is = group.is;
    }

pub returns-clause-header : goal.returns-clause-header
returns-clause-header g c = consumes_meta _ _ _ _ (whole_of g c) c.meta.result c.meta.ensures

pub returns-clause-fault : goal.returns-clause-fault
returns-clause-fault g c = meta_refused _ _ _ _ (whole_of g c) c.meta.result c.meta.ensures

pub returns-in_err-read_letters-clause-other_syntax : goal.returns-in_err-read_letters-clause-other_syntax
returns-in_err-read_letters-clause-other_syntax g c =
    let p = err_from_is_err_and c.from_residual.result c.from_residual.ensures.1 in
    rw (p.1, p.2) (letters_not_other _ _ _ c.in_err-read_letters.ensures.none)

pub returns-in_err-size-clause-other_syntax : goal.returns-in_err-size-clause-other_syntax
returns-in_err-size-clause-other_syntax g c =
    let p = err_from_is_err_and c.from_residual-in_err-size.result c.from_residual-in_err-size.ensures.1 in
    rw (p.1, p.2) (not_other _ _ _ _ _ c.in_err-size.ensures.none)

pub returns-in_err-read_group-clause-other_syntax : goal.returns-in_err-read_group-clause-other_syntax
returns-in_err-read_group-clause-other_syntax g c =
    let p = err_from_is_err_and c.from_residual-in_err-read_group.result c.from_residual-in_err-read_group.ensures.1 in
    rw (p.1, p.2) (not_other _ _ _ _ _ c.in_err-read_group.ensures.none)

pub returns-clause-other_syntax : goal.returns-clause-other_syntax
returns-clause-other_syntax g c =
    names_other _ _ _ _ (whole_of g c) c.meta.result c.meta.ensures

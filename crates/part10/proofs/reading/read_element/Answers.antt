use Rattle.std.proofs.KnownBytes.{Consumes-trans}
use Rattle.std.proofs.Common.{arith, refl}
use Rattle.std.proofs.lemmas.Result.{err_from_is_err_and}
use Rattle.part10.specs.machine.Reading.{NoElement}
use Rattle.part10.proofs.PartFailsTheWhole.{bad_after, breaks_after, breaks_at}
use Rattle.part10.proofs.NoElementFollows.{not_next, long_value, short_value, no_header, next_parts}
use Rattle.part10.proofs.reading.read_element.Goals as goal

pub returns-in_err-header : goal.returns-in_err-header
returns-in_err-header g c =
    record {
      read = rw (err_from_is_err_and c.from_residual.result c.from_residual.ensures.1).1 tt;
      none = let p = err_from_is_err_and c.from_residual.result c.from_residual.ensures.1 in
          rw (p.1, p.2) (breaks_at _ _ _ (NoElement c.args.last c.args.remaining) c.in_err-header.ensures.none (λ rest none. no_header c.args.last c.args.remaining rest none));
    }

pub returns-then-not-is_next : goal.returns-then-not-is_next
returns-then-not-is_next g c =
    record {
      read = tt;
      none = let read = c.in_ok-header.ensures.read in
          bad_after _ _ _ (NoElement c.args.last c.args.remaining) read.consumed (λ rest. not_next c.args.last c.args.remaining c.in_ok-header.header read.bytes rest read.spells c.if-not-is_next.ensures);
    }

pub returns-then-length-remaining : goal.returns-then-length-remaining
returns-then-length-remaining g c =
    record {
      read = tt;
      none = let read = c.in_ok-header.ensures.read in
          bad_after _ _ _ (NoElement c.args.last c.args.remaining) read.consumed
          (λ rest. long_value c.args.last c.args.remaining c.in_ok-header.size c.in_ok-header.header read.bytes rest read.spells read.counted (omega (arith, c.if-length-remaining.true, read.within)));
    }

pub returns-in_err-uid : goal.returns-in_err-uid
returns-in_err-uid g c =
    record {
      read = rw (err_from_is_err_and c.from_residual-in_err-uid.result c.from_residual-in_err-uid.ensures.1).1 tt;
      none = let read = c.in_ok-header.ensures.read in
          let p = err_from_is_err_and c.from_residual-in_err-uid.result c.from_residual-in_err-uid.ensures.1 in
          rw (p.1, p.2) (breaks_after _ _ _ _ _ (NoElement c.args.last c.args.remaining) read.consumed c.in_err-uid.ensures.short
          (λ rest few. short_value c.args.last c.args.remaining c.in_ok-header.header read.bytes rest read.spells few));
    }

pub returns : goal.returns
returns g c =
    let read = c.in_ok-header.ensures.read in
    let value = c.in_ok-uid.ensures.read in
    let next = next_parts c.args.last c.in_ok-header.header c.if-not-is_next.ensures in
    record {
      read = record {
        header = c.in_ok-header.header;
        bytes = read.bytes;
        value = value.0;
        is = record { spells = read.spells; group = next.0; rises = next.1; even = next.2; size = value.2.0 };
        consumed = Consumes-trans _ _ _ _ _ read.consumed value.1;
        number = refl;
        uid = value.2.1;
        counted = omega (arith, read.counted, value.2.0);
        within = omega (arith, read.within, c.if-length-remaining.false);
      };
      none = tt;
    }

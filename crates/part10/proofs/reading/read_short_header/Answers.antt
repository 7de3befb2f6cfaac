use Rattle.std.proofs.Common.{◌≡◌, ℕ, ◌-◌, ◌∙◌, ◌++◌, [], ◌∷◌, length, sym, arith, length-take, length-append}
use Rattle.std.proofs.lemmas.Result.{err_from_is_err_and}
use Rattle.std.proofs.KnownBytes.{Consumes-trans}
use Rattle.element.specs.declared.syntax.Syntax.TheVariants.{Explicit}
use Rattle.part10.specs.machine.Reading.{NoHeader}
use Rattle.part10.proofs.PartFailsTheWhole.{bad_after, breaks_after, breaks_at}
use Rattle.part10.proofs.EightBytesGiveSize.{need_bounds, short_front, no_front, long_front, short_back, whole_header, whole_spells}
use Rattle.part10.proofs.reading.read_short_header.Goals as goal

pub returns-in_default : goal.returns-in_default
returns-in_default g c =
    let filled = c.in_ok-read_whole.ensures in
    record {
      read = tt;
      none = bad_after _ _ _ (NoHeader c.args.remaining) filled.consumes (λ rest. no_front c.args.remaining c.read_whole.new.room rest filled.size (λ size e. c.in_default.not-Size size (c.need.ensures ∙ e)));
    }

pub returns-then-size-remaining : goal.returns-then-size-remaining
returns-then-size-remaining g c =
    record {
      read = tt;
      none = let filled = c.in_ok-read_whole.ensures in
          bad_after _ _ _ (NoHeader c.args.remaining) filled.consumes (λ rest. long_front c.args.remaining c.in-Size.size c.read_whole.new.room rest filled.size (sym c.in-Size.ensures) c.if-size-remaining.true);
    }

pub slice_bounds-back-length : goal.slice_bounds-back-length
slice_bounds-back-length g c =
    let bounds = need_bounds Explicit c.read_whole.new.room c.in-Size.size (sym c.in-Size.ensures) in
    omega (arith, length-take {A = ℕ} (c.in-Size.size - 8) (0 ∷ 0 ∷ 0 ∷ 0 ∷ []), bounds.0, bounds.1)

pub returns-in_err-read_whole-2 : goal.returns-in_err-read_whole-2
returns-in_err-read_whole-2 g c =
    record {
      read = rw (err_from_is_err_and c.from_residual-in_err-read_whole-2.result c.from_residual-in_err-read_whole-2.ensures.1).1 tt;
      none = let filled = c.in_ok-read_whole.ensures in
          let bounds = need_bounds Explicit c.read_whole.new.room c.in-Size.size (sym c.in-Size.ensures) in
          let room : length c.read_whole-2.new.room ≡ c.in-Size.size - 8 = omega (arith, c.in_err-read_whole-2.ensures.size, length-take {A = ℕ} (c.in-Size.size - 8) (0 ∷ 0 ∷ 0 ∷ 0 ∷ []), bounds.0, bounds.1) in
          let p = err_from_is_err_and c.from_residual-in_err-read_whole-2.result c.from_residual-in_err-read_whole-2.ensures.1 in
          rw (p.1, p.2) (breaks_after _ _ _ _ _ (NoHeader c.args.remaining) filled.consumes c.in_err-read_whole-2.ensures.short
          (λ rest few. short_back c.args.remaining c.in-Size.size c.read_whole.new.room rest filled.size (sym c.in-Size.ensures) (omega (arith, few, room, bounds.0))));
    }

pub read_header-requires : goal.read_header-requires
read_header-requires g c =
    let text = c.as_slice.ensures.value ∙ c.joined-whole.ensures in
    let bounds = need_bounds Explicit c.read_whole.new.room c.in-Size.size (sym c.in-Size.ensures) in
    let count : length (c.read_whole.new.room ++ c.read_whole-2.new.room) ≡ c.in-Size.size = rw length-append (omega (arith, c.in_ok-read_whole.ensures.size, c.in_ok-read_whole-2.ensures.size, length-take {A = ℕ} (c.in-Size.size - 8) (0 ∷ 0 ∷ 0 ∷ 0 ∷ []), bounds.0, bounds.1)) in
    whole_header c.read_whole.new.room c.read_whole-2.new.room c.as_slice.result.now c.in-Size.size text (sym c.in-Size.ensures) count

pub returns : goal.returns
returns g c =
    record {
      read = let text = c.as_slice.ensures.value ∙ c.joined-whole.ensures in
          let bounds = need_bounds Explicit c.read_whole.new.room c.in-Size.size (sym c.in-Size.ensures) in
          let count : length (c.read_whole.new.room ++ c.read_whole-2.new.room) ≡ c.in-Size.size = rw length-append (omega (arith, c.in_ok-read_whole.ensures.size, c.in_ok-read_whole-2.ensures.size, length-take {A = ℕ} (c.in-Size.size - 8) (0 ∷ 0 ∷ 0 ∷ 0 ∷ []), bounds.0, bounds.1)) in
          record {
            bytes = c.read_whole.new.room ++ c.read_whole-2.new.room;
            spells = whole_spells c.read_whole.new.room c.read_whole-2.new.room c.as_slice.result.now c.in-Size.size c.read_header.result text (sym c.in-Size.ensures) count c.read_header.ensures.spelled;
            consumed = Consumes-trans _ _ _ _ _ c.in_ok-read_whole.ensures.consumes c.in_ok-read_whole-2.ensures.consumes;
            counted = count;
            within = c.if-size-remaining.false;
          };
      none = tt;
    }

pub returns-in_err-read_whole : goal.returns-in_err-read_whole
returns-in_err-read_whole g c =
    let p = err_from_is_err_and c.from_residual.result c.from_residual.ensures.1 in
    record {
      read = rw p.1 tt;
      none = rw (p.1, p.2) (breaks_at _ _ _ (NoHeader c.args.remaining) c.in_err-read_whole.ensures.short (λ rest few. short_front c.args.remaining rest (omega (arith, few, c.in_err-read_whole.ensures.size))));
    }

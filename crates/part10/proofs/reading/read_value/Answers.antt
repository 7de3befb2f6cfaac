use Rattle.std.proofs.Common.{◌≡◌, ℕ, ◌<◌, ◌≤◌, ◌++◌, min, length, replicate, sym, arith, length-append, length-take, ◌∙◌}
use Rattle.std.proofs.KnownBytes.{Consumes-trans}
use Rattle.part10.proofs.UidIsInFront.{uid_in_front, no_uid, padding_none}
use Rattle.part10.proofs.reading.read_value.Goals as goal

pub returns-then-not-is_padding : goal.returns-then-not-is_padding
returns-then-not-is_padding g c =
    record {
      read = let filled = c.in_ok-read_whole.ensures in
          let after = c.in_ok-is_padding.ensures.read in
          let none = sym c.if-not-is_padding.true ∙ after.2.1 in
          let some : 0 < length after.0 = padding_none after.0 none in
          let front : length c.read_whole.new.room ≡ min c.min-first.result 64 = filled.size ∙ length-take {A = ℕ} c.min-first.result (replicate 64 0) in
          let full : 64 ≤ length c.read_whole.new.room = omega (arith, some, front, c.min-first.ensures, after.2.0) in
          let all : length (c.read_whole.new.room ++ after.0) ≡ c.args.size = rw length-append (omega (arith, front, c.min-first.ensures, after.2.0)) in
          (c.read_whole.new.room ++ after.0, Consumes-trans _ _ _ _ _ filled.consumes after.1, (all, sym (no_uid c.read_whole.new.room after.0 full none)));
      short = tt;
    }

pub returns : goal.returns
returns g c =
    record {
      read = let filled = c.in_ok-read_whole.ensures in
          let after = c.in_ok-is_padding.ensures.read in
          let front : length c.read_whole.new.room ≡ min c.min-first.result 64 = filled.size ∙ length-take {A = ℕ} c.min-first.result (replicate 64 0) in
          let all : length (c.read_whole.new.room ++ after.0) ≡ c.args.size = rw length-append (omega (arith, front, c.min-first.ensures, after.2.0)) in
          (c.read_whole.new.room ++ after.0, Consumes-trans _ _ _ _ _ filled.consumes after.1, (all, c.read.ensures ∙ sym (uid_in_front c.read_whole.new.room after.0 (sym c.if-not-is_padding.false ∙ after.2.1))));
      short = tt;
    }

-- The size of a header, by the cases of `need` (PS3.5 sections 7.1.2, 7.1.3 and 7.5).
use Rattle.std.specs.Prelude.{◌≡◌, ℕ, ◌<◌, ◌≤◌, Bool, true, false, ◌&&◌, List, length, get_or}
use Rattle.element.specs.declared.syntax.Syntax.{Syntax}
use Rattle.element.specs.declared.size.Need.{Need}
use Rattle.element.specs.declared.size.Need.TheVariants.{More, Size, BadVr}
use Rattle.element.specs.Vr.{is_capital, is_short}
use Rattle.element.specs.Header.{is_plain, tag_at}

abbrev pub caps : List ℕ → Bool
caps b = is_capital (get_or b 4 0) && is_capital (get_or b 5 0)

abbrev pub shorts : List ℕ → Bool
shorts b = is_short (get_or b 4 0) (get_or b 5 0)

-- the size of the header that begins with the bytes b, case by case
pub data NeedIs (s : Syntax) (b : List ℕ) : Need → Type 0 where
  -- fewer than the four bytes of the tag
  few : length b < 4 → NeedIs s b More
  -- a header without a VR
  plain_eight : 4 ≤ length b → is_plain s (tag_at b) ≡ true → NeedIs s b (Size 8)
  -- fewer than the six bytes of tag and VR
  no_vr : 4 ≤ length b → is_plain s (tag_at b) ≡ false → length b < 6 → NeedIs s b More
  -- bytes 4 and 5, where the VR stands, are not two capital letters
  refused : 6 ≤ length b → is_plain s (tag_at b) ≡ false → caps b ≡ false → NeedIs s b BadVr
  short_eight : 6 ≤ length b → is_plain s (tag_at b) ≡ false → caps b ≡ true → shorts b ≡ true → NeedIs s b (Size 8)
  long_twelve : 6 ≤ length b → is_plain s (tag_at b) ≡ false → caps b ≡ true → shorts b ≡ false → NeedIs s b (Size 12)

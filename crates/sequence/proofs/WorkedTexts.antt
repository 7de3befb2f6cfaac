-- The texts on which the definitions of data sets are tried have the reports that they are to have. Stands on
-- MachineReports/AnyText.
use Rattle.std.proofs.Common.{◌≡◌, ℕ, zero, suc, ◌&&◌, Bool, true, false, List, [], ◌∷◌, ◌++◌, nat_lt, take, refl, lit<, ltb-true}
use Rattle.std.specs.List.{list_all}
use Rattle.sequence.specs.declared.coding.Coding.TheVariants.{Implicit, Explicit, Encapsulated}
use Rattle.element.specs.Header.{need, is_whole, header_at}
use Rattle.element.specs.Vr.{is_short}
use Rattle.dictionary.specs.Tags.{row_of}
use Rattle.sequence.specs.Rules.{broken_tag, broken_header, broken}
use Rattle.sequence.specs.machine.Machine.{due, arrive, begin_value, begin_level, leave, take_header, headed, read, run}
use Rattle.sequence.specs.machine.Keeping.{keep_header, keeps}
use Rattle.sequence.specs.machine.Standing.{IsBytes}
use Rattle.sequence.specs.Examples.{wanting, levels_of, identifiers, two_levels, four_levels, past_item, level_past_item, third_level, empty_third, unknown, pixels, one_store, TwoOpenLevels, FourLevels, PastItsItem, TooDeep, UnknownContent, OneStore, pixel_data_header, one_frame, two_frames, icon, OneFrame, TwoFrames, AnIcon, NoFragment}
use Rattle.sequence.proofs.MachineReports.AnyText.{reports}

both_remaining : (a b : Bool) → (a && b) ≡ true → a ≡ true
both_remaining true b e = refl
both_remaining false b e = e

both_right : (a b : Bool) → (a && b) ≡ true → b ≡ true
both_right true b e = e
both_right false b e = absurd cc

pub bytes_by : (b : List ℕ) → list_all (λ x. nat_lt x 256) b ≡ true → IsBytes b
bytes_by [] e i = lit< tt
bytes_by (x ∷ b) e zero = ltb-true x 256 (both_remaining _ _ e)
bytes_by (x ∷ b) e (suc i) = bytes_by b (both_right _ _ e) i

pub two_open_levels : TwoOpenLevels
unfolding need is_whole header_at is_short row_of broken_tag broken_header broken due arrive begin_value begin_level leave take_header headed read run keep_header keeps
two_open_levels = reports Implicit (levels_of 64) two_levels (bytes_by two_levels refl)

pub four_levels_that_end_together : FourLevels
unfolding need is_whole header_at is_short row_of broken_tag broken_header broken due arrive begin_value begin_level leave take_header headed read run keep_header keeps
four_levels_that_end_together = (
  reports Implicit (levels_of 64) (take 41 four_levels) (bytes_by (take 41 four_levels) refl),
  reports Implicit (levels_of 64) (take 42 four_levels) (bytes_by (take 42 four_levels) refl),
  reports Implicit (levels_of 64) four_levels (bytes_by four_levels refl),
)

pub a_header_past_its_item : PastItsItem
unfolding need is_whole header_at is_short row_of broken_tag broken_header broken due arrive begin_value begin_level leave take_header headed read run keep_header keeps
a_header_past_its_item wanted = (
  reports Implicit (wanting wanted 64) past_item (bytes_by past_item refl),
  reports Implicit (wanting wanted 64) (take 25 past_item) (bytes_by (take 25 past_item) refl),
  reports Implicit (wanting wanted 64) level_past_item (bytes_by level_past_item refl),
)

pub deeper_than_the_limit : TooDeep
unfolding need is_whole header_at is_short row_of broken_tag broken_header broken due arrive begin_value begin_level leave take_header headed read run keep_header keeps
deeper_than_the_limit wanted = (
  reports Implicit (wanting wanted 2) third_level (bytes_by third_level refl),
  reports Implicit (wanting wanted 2) empty_third (bytes_by empty_third refl),
)

pub unknown_content : UnknownContent
unfolding need is_whole header_at is_short row_of broken_tag broken_header broken due arrive begin_value begin_level leave take_header headed read run keep_header keeps
unknown_content wanted = (
  reports Explicit (wanting wanted 64) unknown (bytes_by unknown refl),
  reports Explicit (wanting wanted 64) pixels (bytes_by pixels refl),
)

pub one_store_reported : OneStore
unfolding need is_whole header_at is_short row_of broken_tag broken_header broken due arrive begin_value begin_level leave take_header headed read run keep_header keeps
one_store_reported = reports Explicit (wanting identifiers 64) one_store (bytes_by one_store refl)

pub one_frame_walked : OneFrame
unfolding need is_whole header_at is_short row_of broken_tag broken_header broken due arrive begin_value begin_level leave take_header headed read run keep_header keeps
one_frame_walked wanted = (
  reports Encapsulated (wanting wanted 1) one_frame (bytes_by one_frame refl),
  reports Encapsulated (wanting wanted 1) (take 30 one_frame) (bytes_by (take 30 one_frame) refl),
  reports Encapsulated (wanting wanted 1) (take 55 one_frame) (bytes_by (take 55 one_frame) refl),
  reports Encapsulated (wanting wanted 0) one_frame (bytes_by one_frame refl),
  reports Explicit (wanting wanted 1) one_frame (bytes_by one_frame refl),
)

pub two_frames_walked : TwoFrames
unfolding need is_whole header_at is_short row_of broken_tag broken_header broken due arrive begin_value begin_level leave take_header headed read run keep_header keeps
two_frames_walked wanted = reports Encapsulated (wanting wanted 1) two_frames (bytes_by two_frames refl)

pub an_icon : AnIcon
unfolding need is_whole header_at is_short row_of broken_tag broken_header broken due arrive begin_value begin_level leave take_header headed read run keep_header keeps
an_icon wanted = (
  reports Encapsulated (wanting wanted 3) icon (bytes_by icon refl),
  reports Encapsulated (wanting wanted 3) (take 49 icon) (bytes_by (take 49 icon) refl),
  reports Encapsulated (wanting wanted 3) (take 58 icon) (bytes_by (take 58 icon) refl),
)

pub no_fragment : NoFragment
unfolding need is_whole header_at is_short row_of broken_tag broken_header broken due arrive begin_value begin_level leave take_header headed read run keep_header keeps
no_fragment wanted = (
  reports Encapsulated (wanting wanted 64) (pixel_data_header ++ (254 ∷ 255 ∷ 0 ∷ 224 ∷ 255 ∷ 255 ∷ 255 ∷ 255 ∷ [])) (bytes_by (pixel_data_header ++ (254 ∷ 255 ∷ 0 ∷ 224 ∷ 255 ∷ 255 ∷ 255 ∷ 255 ∷ [])) refl),
  reports Encapsulated (wanting wanted 64) (pixel_data_header ++ (254 ∷ 255 ∷ 0 ∷ 224 ∷ 3 ∷ 0 ∷ 0 ∷ 0 ∷ [])) (bytes_by (pixel_data_header ++ (254 ∷ 255 ∷ 0 ∷ 224 ∷ 3 ∷ 0 ∷ 0 ∷ 0 ∷ [])) refl),
  reports Encapsulated (wanting wanted 64) (pixel_data_header ++ (254 ∷ 255 ∷ 13 ∷ 224 ∷ [])) (bytes_by (pixel_data_header ++ (254 ∷ 255 ∷ 13 ∷ 224 ∷ [])) refl),
  reports Encapsulated (wanting wanted 64) (pixel_data_header ++ (8 ∷ 0 ∷ 96 ∷ 0 ∷ [])) (bytes_by (pixel_data_header ++ (8 ∷ 0 ∷ 96 ∷ 0 ∷ [])) refl),
  reports Encapsulated (wanting wanted 64) (pixel_data_header ++ (254 ∷ 255 ∷ 221 ∷ 224 ∷ 2 ∷ 0 ∷ 0 ∷ 0 ∷ [])) (bytes_by (pixel_data_header ++ (254 ∷ 255 ∷ 221 ∷ 224 ∷ 2 ∷ 0 ∷ 0 ∷ 0 ∷ [])) refl),
)

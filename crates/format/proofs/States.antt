-- A state as plain numbers is that state again: its frames, its work, and the rest of the head.
use mathlib.Core.Path.{◌≡◌, refl, ◌∙◌}
use mathlib.Core.List.{List, [], ◌∷◌}
use Prim.Native.Nat.{ℕ, zero, suc, ◌+◌, ◌*◌, ◌≤◌, ◌<◌}
use native.Mathlib.Omega.{arith}
use lib.Dec.{T}
use lib.ListN.{length}
use lib.Seq.{sets, length-sets}
use Rattle.rows.specs.declared.Span.{Span}
use Rattle.rows.specs.Memory.{open_limit, no_span}
use Rattle.format.specs.declared.Frame.{Frame}
use Rattle.format.specs.Decide.{xml, date, array, bytes, raw, objects, dictionary, four, eight}
use Rattle.format.specs.Reading.{finished, refused}
use Rattle.format.specs.Step.{assoc, dynamics, Use, for_string, for_key, for_class, for_external, for_name, for_vector, xml_text, table_text}
use Rattle.format.specs.Step.{integer_word, object_word, size_word, text_word, double_bits, date_bits, raw_flag, objects_flag, dictionary_flag, byte_array, raw_vector}
use Rattle.format.specs.Step.{Mode, at_marker, at_word, at_number, at_flag, at_text, at_raw, astray, State, wait, over, none}
use Rattle.format.specs.Numbers.{Numbers, frame_at, frames_of, frame_numbers, laid, body_purpose, mode_of, use_work, work_of}
use Rattle.format.specs.Numbers.{finishable, state_of, numbers_of, memory_of, frames_size}
use Rattle.format.proofs.Tests.{is_true}
use Rattle.format.proofs.Lists.{kept_sets, sets_in, Kept}
use Rattle.format.specs.Refusals as no

-- ---- frames

frame-new : (G : List ℕ) (n : ℕ) (f : Frame) → n * 6 + 6 ≤ length G → frame_at (sets G (n * 6) (frame_numbers f)) n ≡ f
unfolding frame_at
frame-new G n f h =
    let vs : List ℕ = frame_numbers f in
    rw (
      sets_in vs G (n * 6) (n * 6) 0 (omega arith) (omega arith) h,
      sets_in vs G (n * 6) (n * 6 + 1) 1 refl (omega arith) h,
      sets_in vs G (n * 6) (n * 6 + 2) 2 refl (omega arith) h,
      sets_in vs G (n * 6) (n * 6 + 3) 3 refl (omega arith) h,
      sets_in vs G (n * 6) (n * 6 + 4) 4 refl (omega arith) h,
      sets_in vs G (n * 6) (n * 6 + 5) 5 refl (omega arith) h,
    )

frame-low : (G vs : List ℕ) (k n : ℕ) → n < k → frame_at (sets G (k * 6) vs) n ≡ frame_at G n
unfolding frame_at
frame-low G vs k n h =
    let low : Kept (k * 6) G (sets G (k * 6) vs) = kept_sets (k * 6) (k * 6) vs G (omega arith) in
    rw (
      low (n * 6) (omega arith),
      low (n * 6 + 1) (omega arith),
      low (n * 6 + 2) (omega arith),
      low (n * 6 + 3) (omega arith),
      low (n * 6 + 4) (omega arith),
      low (n * 6 + 5) (omega arith),
    )

frames-low : (G vs : List ℕ) (k n : ℕ) → n ≤ k → frames_of (sets G (k * 6) vs) n ≡ frames_of G n
unfolding frames_of
frames-low G vs k zero h = refl
frames-low G vs k (suc n) h = rw (frame-low G vs k n h, frames-low G vs k n (omega arith))

pub length-laid : (F : List ℕ) (fs : List Frame) → length (laid F fs) ≡ length F
unfolding laid
length-laid F [] = refl
length-laid F (f ∷ fs) = length-sets (laid F fs) (length fs * 6) (frame_numbers f) ∙ length-laid F fs

-- frames laid in their places are read back
pub frames-laid : (F : List ℕ) (fs : List Frame) → length fs * 6 ≤ length F → frames_of (laid F fs) (length fs) ≡ fs
unfolding laid frames_of
frames-laid F [] h = refl
frames-laid F (f ∷ fs) h =
    let vs : List ℕ = frame_numbers f in
    let l : length (laid F fs) ≡ length F = length-laid F fs in
    rw (
      frame-new (laid F fs) (length fs) f (omega arith),
      frames-low (laid F fs) vs (length fs) (length fs) (omega arith),
      frames-laid F fs (omega arith),
    )

-- ---- works

-- a string's word, and its text
use-of : (u : Use) (s : Span) (left part : ℕ)
    → (mode_of (work_of (at_word (text_word u) left part)) ≡ at_word (text_word u) left part)
    × (mode_of (work_of (at_text (table_text u) s left part)) ≡ at_text (table_text u) s left part)
unfolding mode_of work_of use_work
use-of (for_string row) s left part = (refl, refl)
use-of (for_key (assoc row n done)) s left part = (refl, refl)
use-of (for_key (dynamics row done)) s left part = (refl, refl)
use-of (for_class row n y) s left part = (refl, refl)
use-of for_external s left part = (refl, refl)
use-of (for_name row t n) s left part = (refl, refl)
use-of (for_vector row n) s left part = (refl, refl)

-- the work of a mode is read back as that mode
pub mode-of : (x : Mode) → mode_of (work_of x) ≡ x
unfolding mode_of work_of body_purpose
mode-of (at_marker k) = refl
mode-of (at_word (integer_word row) left part) = refl
mode-of (at_word (object_word row) left part) = refl
mode-of (at_word (size_word row xml) left part) = refl
mode-of (at_word (size_word row date) left part) = refl
mode-of (at_word (size_word row array) left part) = refl
mode-of (at_word (size_word row bytes) left part) = refl
mode-of (at_word (size_word row objects) left part) = refl
mode-of (at_word (size_word row dictionary) left part) = refl
mode-of (at_word (size_word row (raw four)) left part) = refl
mode-of (at_word (size_word row (raw eight)) left part) = refl
mode-of (at_word (text_word u) left part) = (use-of u no_span left part).0
mode-of (at_number (double_bits row) left part) = refl
mode-of (at_number (date_bits row) left part) = refl
mode-of (at_flag (raw_flag row four s)) = refl
mode-of (at_flag (raw_flag row eight s)) = refl
mode-of (at_flag (objects_flag row n)) = refl
mode-of (at_flag (dictionary_flag row n)) = refl
mode-of (at_text (xml_text row) s left test) = refl
mode-of (at_text (table_text u) s left test) = (use-of u s left test).1
mode-of (at_raw (byte_array row) s left) = refl
mode-of (at_raw (raw_vector row four) s left) = refl
mode-of (at_raw (raw_vector row eight) s left) = refl
mode-of astray = refl

-- ---- states

-- states that numbers can show: no more open values than may be, and what a reading can finish with and say
abbrev pub Shown : State → Type 0
Shown (wait x ts c m) = length ts ≤ open_limit
Shown (over (finished c m)) = T (finishable c)
Shown (over (refused number told place m)) = T (no.sayable number told place)
Shown (none m) = ⊥

pub state-numbered : (n : Numbers) (s : State) → length n.frames ≡ frames_size → Shown s → state_of (numbers_of n s) (memory_of s) ≡ s
unfolding state_of numbers_of open_limit
state-numbered n (wait x ts c m) l h = rw (mode-of x, frames-laid n.frames ts (omega arith))
state-numbered n (over (finished c m)) l h = rw (is_true (finishable c) h)
state-numbered n (over (refused number told place m)) l h = rw (is_true (no.sayable number told place) h)
state-numbered n (none m) l h = absurd h

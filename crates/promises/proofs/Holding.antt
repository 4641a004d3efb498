-- Of a state that holds together in its head, its frames and its tables nothing that a byte looks up strays, so that the byte is never refused by 12. The first
-- state holds together so.
use mathlib.Core.Path.{◌≡◌, refl, sym, ap, ◌∙◌}
use mathlib.Core.Logic.{◌≢◌}
use mathlib.Core.List.{List, [], ◌∷◌}
use Prim.Native.Nat.{ℕ, ◌+◌, ◌^◌, ◌<◌}
use native.Mathlib.Omega.{arith}
use Prim.Native.Nat.{zero-le}
use Rattle.rows.specs.declared.Cursor.{Cursor}
use Rattle.rows.specs.declared.Trait.{Trait}
use Rattle.rows.specs.Memory.{Memory, fresh, zeroed, fault_of, no_key, span_at}
use Rattle.format.specs.declared.Answer.TheVariants.{Refused}
use Rattle.rows.specs.declared.lent.Lent.{Lent}
use Rattle.format.specs.declared.Frame.{Frame}
use Rattle.format.specs.Decide.{trait_at, names_to}
use Rattle.format.specs.Reading.{taken}
use Rattle.format.specs.Step.{Mode, at_marker, wait, for_name}
use Rattle.format.specs.Numbers.{Numbers, state_of, lent_of}
use Rattle.format.specs.Answers.{feed_call}
use Rattle.format.specs.Together.{SpanIn, ModeIn, FrameFits, FramesFit, TraitIn, Made, HoldsTogether}
use Rattle.format.specs.Limits.{There, by_text, by_number, by_none}
use Rattle.format.specs.Strays.{FrameStrays, this_frame, next_name, outer_frame, Strays, string_entry, object_entry, trait_entry, entry_name, new_trait, new_trait_name, frames}
use Rattle.format.proofs.Used.{Grows, row_up}
use Rattle.format.proofs.Kept.{fault_in, fault-in}
use Rattle.format.proofs.Along.{lends-zeroed}
use Rattle.format.proofs.Pieces.{answer_in}
use Rattle.promises.proofs.Verdicts.{Room}
use Rattle.promises.proofs.Twins.{twin_act}
use Rattle.promises.proofs.Strays.{twin_finished, sits_first, twin_frame, together-room, lost-strays}
use Rattle.format.specs.Refusals as refusals

-- ---- nothing strays

-- more is used
module _ {c d : Cursor} (g : Grows c d) where
  -- a frame still fits
  frame-up : (f : Frame) → FrameFits f c → FrameFits f d
  frame-up f h =
      let r = h.reads in
      record {
        reads = record { code = r.code; here = row_up g f.row r.here; counted = (let l = r.counted in omega arith) };
        next = λ e l. (let q = h.next e l in omega arith);
      }

  -- all of them do
  frames-up : (ts : List Frame) → FramesFit ts c → FramesFit ts d
  frames-up [] h = tt
  frames-up (f ∷ ts) (h, k) = (frame-up f h, frames-up ts k)

-- no frame
frames_hold : {ts : List Frame} {c : Cursor} {m : Memory} → FrameStrays ts c m → Room c m → FramesFit ts c → ((i : ℕ) → i < c.names → SpanIn (span_at m.names i) c) → ⊥
frames_hold (this_frame z) h (f, fs) s = z f.reads
frames_hold (next_name i e o z) h (f, fs) s = let l = f.next e o in z (l, s _ l)
frames_hold (outer_frame {f = f} {ts = ts} {c = c} {d = d} {m = m} {k = k} q z) h (g, gs) s =
    let (e, w) = twin_finished d k (twin_frame f ts c m h) q in
    frames_hold z w.room (frames-up w.since ts gs) (λ i l. w.names i (s i) l)

-- no trait whose last name comes
named-holds : {b row : ℕ} {t : Trait} {c : Cursor} {m : Memory} {x : Mode} → There c m b x (for_name row t 0) → ModeIn x c → Made x c → TraitIn t (names_to c (c.names + 1))
named-holds (by_text e r) ((((l, k), f), s), p) z = (k, z refl)
named-holds (by_number e q o) (((l, k), f), p) z = (k, z refl)
named-holds (by_none e q) (((l, k), f), p) z = (k, z refl)

-- nothing that a byte looks up
holds-strays : {b : ℕ} {lent : Lent} {x : Mode} {ts : List Frame} {c : Cursor} {m : Memory} → HoldsTogether lent x ts c m → Strays b x ts c m → ⊥
holds-strays h (string_entry e q o f) = f (h.entries.strings _ o)
holds-strays h (object_entry e q o f) = f (h.entries.objects _ o)
holds-strays h (trait_entry e q r o f) = f (h.entries.traits _ o)
holds-strays h (entry_name {i = i} {c = c} {m = m} e q r o (s, t) p f) =
    let l : (trait_at m.traits i).first < c.names = omega arith in
    f (l, h.entries.names _ l)
holds-strays h (new_trait n r f) = f (named-holds n h.together.works h.made)
holds-strays h (new_trait_name n r t u p l f) = f (h.entries.names _ l)
holds-strays {b} h (frames {x = x} {ts = ts} {c = c} {d = d} {m = m} {k = k} o e s) =
    let (q, w) = twin_finished d k (twin_act b ts c m x o (sits_first (taken c) m (together-room h.together)) h.together.works) e in
    frames_hold s w.room (frames-up w.since ts (frames-up {c = c} (omega arith) ts h.frames)) (λ i l. w.names i (h.entries.names i) l)

-- where a state holds together, the next byte is never refused by 12
pub together-never-lost : (n : Numbers) (m : Memory) (b : ℕ) (x : Mode) (ts : List Frame) (c : Cursor) → b < 2 ^ 8 → state_of n m ≡ wait x ts c m
    → HoldsTogether n.head.lent x ts c m → (told place k : ℕ) → answer_in (feed_call n m (b ∷ [])) ≢ Refused refusals.lost told place k
together-never-lost n m b x ts c o e h told place k q = holds-strays h (lost-strays n m b x ts c o e h.together told place k q).1

-- ---- the first state

-- the state that begin leaves holds together
pub first_holds : (m : Memory) → fault_of m ≡ 0 → HoldsTogether (lent_of m) (at_marker no_key) [] fresh (zeroed m)
first_holds m e =
    let q : lent_of (zeroed m) ≡ lent_of m = lends-zeroed _ m refl in
    record {
      together = record {
        loans = q;
        clean = sym (fault-in (zeroed m)) ∙ ap fault_in q ∙ fault-in m ∙ e;
        within = zero-le;
        open_fits = zero-le;
        counts = (((((zero-le, zero-le), zero-le), zero-le), zero-le), zero-le);
        works = λ l. zero-le;
        pairs = tt;
      };
      frames = tt;
      entries = record {
        strings = λ i l. absurd (omega arith);
        objects = λ i l. absurd (omega arith);
        traits = λ i l. absurd (omega arith);
        names = λ i l. absurd (omega arith);
      };
      made = tt;
    }

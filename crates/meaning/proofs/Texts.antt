-- Bytes of a span, and texts: read alike, whatever else holds meanwhile.
use mathlib.Core.Path.{◌≡◌, refl, sym, ap, ◌∙◌}
use mathlib.Core.Bool.{Bool, true, false, cond}
use mathlib.Core.List.{List, [], ◌∷◌, ◌++◌, append_assoc}
use Prim.Native.Nat.{ℕ, zero, suc, ◌+◌, ◌-◌, ◌/◌, ◌<◌, ◌≤◌}
use native.Mathlib.Omega.{arith}
use native.Mathlib.Decide.{dec_lt}
use borrow.Author.Tests.{lt-ltb, le-ltb, le-leb, lt-leb, ltb-false, leb-false}
use lib.Dec.{leb, ltb, eqb, lit≤, lit<}
use lib.ListN.{length, drop, set, length-append, length-drop}
use lib.Seq.{take-suc-set, drop-set-add}
use Rattle.rows.specs.declared.Cursor.{Cursor}
use Rattle.rows.specs.declared.Span.{Span}
use Rattle.rows.specs.Memory.{Memory, message_limit, span, no_span}
use Rattle.wire.specs.declared.Size.{Size}
use Rattle.wire.specs.declared.Size.TheVariants.{Old, New}
use Rattle.wire.specs.Word.{size_of}
use Rattle.meaning.proofs.Own.{size_is}
use Rattle.wire.proofs.Octets.{Bytes}
use Rattle.utf8.specs.Grammar.{valid_text, follow}
use Rattle.utf8.specs.States.{step_of, fold_of}
use Rattle.utf8.proofs.Fold.{fold_valid}
use Rattle.format.specs.Decide.{Out, stop, lift, store_to, strings_to, on_store, on_strings, looking, stored, old_text, reserved, text_end}
use Rattle.format.specs.Reading.{ResultOf, ok, bad, bind, ret, Result, Reader, decided, taken}
use Rattle.format.specs.Reading as our
use Rattle.format.specs.Unfold.{part}
use Rattle.format.specs.Standard as std
use Rattle.format.specs.Standard.{Tables, Std}
use Rattle.format.proofs.Lists.{kept_set, part_length}
use Rattle.format.proofs.Memories.{at_to, with_store, with_strings}
use Rattle.format.proofs.Alike.{Left, Agree, fine, both, ours, then, made, flat, byte-then, word-then}
use Rattle.meaning.proofs.Rep.{Text}
use Rattle.meaning.proofs.Tables.{Sim}
use Rattle.meaning.proofs.Changes.{sim-at, sim-byte, sim_reserve, sim-settle, sim-text}
use Rattle.meaning.proofs.Stage.{Quiet, quiet_of, quiet_at}
use Rattle.format.specs.Refusals as refusals

-- ---- rules

module _ {whole : List ℕ} {S A B C : Type 0} {Q : C → Memory → Cursor → B → Tables → Type 0} where
  -- a refusal that only the loans make
  pub limit : (g : S → Memory) (t : Bool) (n told p : ℕ) (o : Out S A) (m : Memory) (bs : List ℕ) (f : A → Reader C) {y : ResultOf Tables ℕ B} → refusals.too_deep ≤ n
      → n ≤ refusals.too_long → (t ≡ false → Agree whole Q (bind (decided (lift g o) m bs) f) y)
      → Agree whole Q (bind (decided (lift g (cond t (stop n told p) o)) m bs) f) y
  limit g true n told p o m bs f h k r = ours h k
  limit g false n told p o m bs f h k r = r refl

-- the last decision of a reader
pub last : {whole : List ℕ} {A B : Type 0} {Q : A → Memory → Cursor → B → Tables → Type 0} (x : Result A) {y : ResultOf Tables ℕ B}
    → Agree whole Q (bind x ret) y → Agree whole Q x y
last (ok a m c bs) h = h
last (bad n t p m) h = h

-- ---- a byte more of a part

pub part-more : (B : List ℕ) (b z v : ℕ) (xs : List ℕ) → part B b z ≡ xs → b + z < length B → part (set B (b + z) v) b (suc z) ≡ xs ++ v ∷ []
unfolding part
part-more B b z v xs e h =
    let l : z < length (drop b B) = omega (arith, length-drop b B) in
    rw (drop-set-add b B z v, take-suc-set (drop b B) z v l) (ap (λ l. l ++ v ∷ []) e)

pub text-size : (B : List ℕ) (u b z : ℕ) (xs : List ℕ) → Text B u b z xs → u ≤ length B → length xs ≡ z
text-size B u b z xs t h = ap length (sym t.0) ∙ part_length B b z (let e = t.1 in omega arith)

pub part_none : (B : List ℕ) (b : ℕ) → part B b 0 ≡ []
unfolding part
part_none B b = refl

quiet-byte : (u : ℕ) (m : Memory) (c : Cursor) (i b : ℕ) → u ≤ i → Quiet u m c (with_store m (set m.store i b)) c
quiet-byte u m c i b h =
    quiet_of u m c (set m.store i b) m.strings m.traits c.at c.store c.strings c.traits (omega arith) (omega arith)
    (kept_set u i b m.store h)

pub quiet_reserve : (u : ℕ) (m : Memory) (c : Cursor) (z : ℕ) → c.store ≤ z → Quiet u m c m (store_to c z)
quiet_reserve u m c z h = quiet_of u m c m.store m.strings m.traits c.at z c.strings c.traits (omega arith) h (λ i l. refl)

-- ---- whatever holds meanwhile: J says that loans and tables accord, and lasts through what texts do

pub record Lasting (J : ℕ → Memory → Cursor → Tables → Type 0) : Type 0 where
  pub sim : {u : ℕ} {m : Memory} {c : Cursor} {s : Tables} → J u m c s → Sim u m c s
  pub quiet : {u : ℕ} {m : Memory} {c : Cursor} {s : Tables} (v : ℕ) {m' : Memory} {c' : Cursor} {s' : Tables} → J u m c s → u ≤ v → Quiet u m c m' c'
      → Sim v m' c' s' → J v m' c' s'

module _ (whole : List ℕ) (octets : Bytes whole) {J : ℕ → Memory → Cursor → Tables → Type 0} (lasting : Lasting J) where
  abbrev moved : {u : ℕ} {m : Memory} {c : Cursor} {s : Tables} (n : ℕ) → J u m c s → c.at ≤ n → n ≤ message_limit → J u m (at_to c n) s
  moved {u} {m} {c} {s} n j h l = lasting.quiet u j (omega arith) (quiet_at u m c n h) (sim-at (lasting.sim j) n l)

  -- a byte of a span is stored behind xs
  pub store_then : {B C : Type 0} {Q : C → Memory → Cursor → B → Tables → Type 0} (n b u : ℕ) (xs : List ℕ) (sp : Span) (m : Memory) (c : Cursor)
      (s : Tables) (bs : List ℕ) (f : Unit → Reader C) {y : ResultOf Tables ℕ B} → J u m c s → u ≤ sp.begin
      → part m.store sp.begin (length xs) ≡ xs → sp.size ≡ length xs + suc n → sp.begin + sp.size ≤ c.store
      → ((m₁ : Memory) → J u m₁ c s → part m₁.store sp.begin (length (xs ++ b ∷ [])) ≡ xs ++ b ∷ [] → Agree whole Q (f tt m₁ c bs) y)
      → Agree whole Q (bind (decided (on_store (stored sp n b) m c) m bs) f) y
  unfolding stored
  store_then n b u xs sp m c s bs f j h e z w k =
      let x = lasting.sim j in
      let i = x.store_in in
      let a : sp.begin + (sp.size - (n + 1)) ≡ sp.begin + length xs = omega arith in
      let g : length (xs ++ b ∷ []) ≡ suc (length xs) = rw length-append (omega arith) in
      rw (le-ltb (length m.store) c.store i, lt-leb sp.size n (omega arith), le-leb (sp.begin + sp.size) c.store w, a)
      (k _ (lasting.quiet u j (omega arith) (quiet-byte u m c (sp.begin + length xs) b (omega arith))
      (sim-byte x (sp.begin + length xs) b (omega arith)))
      (rw g (part-more m.store sp.begin (length xs) b xs e (omega arith))))

  pub record GotBytes (u : ℕ) (sp : Span) (xs : List ℕ) (n : ℕ) (c : Cursor) (m' : Memory) (c' : Cursor) (ys : List ℕ) (s' : Tables) : Type 0 where
    pub inv : J u m' c' s'
    pub text : part m'.store sp.begin sp.size ≡ xs ++ ys
    pub many : length ys ≡ n
    pub up : c.store ≤ c'.store
    pub more : c.at < c'.at

  pub chars-alike : (n t u : ℕ) (xs : List ℕ) (sp : Span) (m : Memory) (c : Cursor) (s : Tables) (bs : List ℕ) → J u m c s → u ≤ sp.begin
      → part m.store sp.begin (length xs) ≡ xs → sp.size ≡ length xs + suc n → sp.begin + sp.size ≤ c.store → Left whole c.at bs
      → Agree whole (λ v m' c' ys s'. (v ≡ eqb (fold_of t ys) 0) × GotBytes u sp xs (suc n) c m' c' ys s') (our.chars sp n t m c bs)
      (std.bytes (suc n) s c.at bs)
  unfolding our.chars std.bytes fold_of
  chars-alike zero t u xs sp m c s bs j h e z w l = byte-then whole octets m s c bs _ _ l (λ b bs l o i.
      store_then 0 b u xs sp m (taken c) s bs _ (moved (suc c.at) j (omega arith) i) h e z w (λ m₁ j p.
      let g : length (xs ++ b ∷ []) ≡ sp.size = rw length-append (omega arith) in
      fine l (refl, record { inv = j; text = rw g at p; many = refl; up = omega arith; more = omega arith })))
  chars-alike (suc n) t u xs sp m c s bs j h e z w l = byte-then whole octets m s c bs _ _ l (λ b bs l o i.
      store_then (suc n) b u xs sp m (taken c) s bs _ (moved (suc c.at) j (omega arith) i) h e z w (λ m₁ j p.
      let g : length (xs ++ b ∷ []) ≡ suc (length xs) = rw length-append (omega arith) in
      made (λ ys. b ∷ ys) (chars-alike n (step_of t b) u (xs ++ b ∷ []) sp m₁ (taken c) s bs j h p (omega arith) w l) (λ v m' c' ys s' r.
      let q = r.1 in
      let up = q.up in
      let more = q.more in
      let a : (xs ++ b ∷ []) ++ ys ≡ xs ++ b ∷ ys = append_assoc xs (b ∷ []) ys in
      (r.0, record { inv = q.inv; text = q.text ∙ a; many = ap suc q.many; up = up; more = omega arith }))))

  -- what each byte of a raw body is followed by
  pub record Growing (grow : ℕ → Reader Unit) : Type 0 where
    pub grown : {u : ℕ} {m : Memory} {c : Cursor} {s : Tables} (left : ℕ) (bs : List ℕ) → J u m c s
        → (m' : Memory) × (grow left m c bs ≡ ok tt m' c bs) × J u m' c s × (m'.store ≡ m.store)

  pub fill-alike : (grow : ℕ → Reader Unit) → Growing grow → (n u : ℕ) (xs : List ℕ) (sp : Span) (m : Memory) (c : Cursor) (s : Tables) (bs : List ℕ)
      → J u m c s → u ≤ sp.begin → part m.store sp.begin (length xs) ≡ xs → sp.size ≡ length xs + suc n → sp.begin + sp.size ≤ c.store
      → Left whole c.at bs → Agree whole (λ x m' c' ys s'. GotBytes u sp xs (suc n) c m' c' ys s') (our.fill grow sp n m c bs)
      (std.bytes (suc n) s c.at bs)
  unfolding our.fill std.bytes
  fill-alike grow r zero u xs sp m c s bs j h e z w l = byte-then whole octets m s c bs _ _ l (λ b bs l o i.
      store_then 0 b u xs sp m (taken c) s bs _ (moved (suc c.at) j (omega arith) i) h e z w (λ m₁ j p.
      let g : length (xs ++ b ∷ []) ≡ sp.size = rw length-append (omega arith) in
      let q = r.grown zero bs j in
      let k : part q.0.store sp.begin sp.size ≡ xs ++ b ∷ [] = rw q.3 (rw g at p) in
      rw q.1 (fine l (record { inv = q.2; text = k; many = refl; up = omega arith; more = omega arith }))))
  fill-alike grow r (suc n) u xs sp m c s bs j h e z w l = byte-then whole octets m s c bs _ _ l (λ b bs l o i.
      rw flat (store_then (suc n) b u xs sp m (taken c) s bs _ (moved (suc c.at) j (omega arith) i) h e z w (λ m₁ j p.
      let g : length (xs ++ b ∷ []) ≡ suc (length xs) = rw length-append (omega arith) in
      let q = r.grown (suc n) bs j in
      rw q.1 (made (λ ys. b ∷ ys) (fill-alike grow r n u (xs ++ b ∷ []) sp q.0 (taken c) s bs q.2 h (rw q.3 p) (omega arith) w l)
      (λ v m' c' ys s' q.
      let up = q.up in
      let more = q.more in
      let a : (xs ++ b ∷ []) ++ ys ≡ xs ++ b ∷ ys = append_assoc xs (b ∷ []) ys in
      record { inv = q.inv; text = q.text ∙ a; many = ap suc q.many; up = up; more = omega arith })))))

  -- ---- texts

  -- what is done when a span is reserved
  pub record Reserving (at : Span → Reader Unit) : Type 0 where
    pub done : {u : ℕ} {m : Memory} {c : Cursor} {s : Tables} (sp : Span) (bs : List ℕ) → J u m c s
        → (m' : Memory) × (at sp m c bs ≡ ok tt m' c bs) × J u m' c s

  pub record GotText (c : Cursor) (sp : Span) (m' : Memory) (c' : Cursor) (xs : List ℕ) (s' : Tables) : Type 0 where
    pub inv : J c'.store m' c' s'
    pub text : Text m'.store c'.store sp.begin sp.size xs
    pub up : c.at ≤ c'.at

  old-text : (i : ℕ) (m : Memory) (c : Cursor) (s : Tables) (bs : List ℕ) → J c.store m c s → Left whole c.at bs
      → Agree whole (GotText c) (decided (looking (λ m. old_text i m.strings) m c) m bs) (std.text_of (Old i) s c.at bs)
  unfolding std.text_of old_text
  old-text i m c s bs j l =
      let x = lasting.sim j in
      let y = x.strings in
      let a = y.fits in
      rw (le-ltb (length m.strings / 2) c.strings (omega arith)) (elim (dec_lt i c.strings) [
        | yes h ↦
            (let t = y.each i h in
            let b : i < length s.texts = (let e = y.many in omega arith) in
            rw (lt-leb c.strings i h, le-leb _ c.store t.1, lt-ltb i (length s.texts) b)
            (fine l (record { inv = j; text = t; up = omega arith })))
        | no h ↦
            (let b : length s.texts ≤ i = (let e = y.many in omega arith) in
            rw (le-leb c.strings i (omega arith), le-ltb i (length s.texts) b) (both (lit≤ tt) (lit≤ tt)))
      ])

  -- a new text's bytes are there: the verdict, and its entry
  new-text : (v : Bool) (c : Cursor) (sp : Span) (m₁ : Memory) (c₁ : Cursor) (s₁ : Tables) (b : ℕ) (ys : List ℕ) (bs : List ℕ)
      → sp.begin + sp.size ≤ c₁.store → c.at ≤ c₁.at → J sp.begin m₁ c₁ s₁ → part m₁.store sp.begin sp.size ≡ b ∷ ys
      → Left whole c₁.at bs → Agree whole (GotText c) (decided (on_strings (text_end sp v) m₁ c₁) m₁ bs)
      (bind (cond v (ret (b ∷ ys)) (std.fail 8 0) s₁ c₁.at bs) std.kept_text)
  unfolding text_end std.kept_text
  new-text false c sp m₁ c₁ s₁ b ys bs w up j e l =
      let a = (lasting.sim j).strings.fits in
      rw (le-ltb (length m₁.strings / 2) c₁.strings (omega arith)) (both (lit≤ tt) (lit≤ tt))
  new-text true c sp m₁ c₁ s₁ b ys bs w up j e l =
      let x = lasting.sim j in
      let a = x.strings.fits in
      let y = sim-settle x c₁.store (omega arith) (omega arith) in
      rw (le-ltb (length m₁.strings / 2) c₁.strings (omega arith))
      (last _ (limit (λ T. with_strings m₁ T) (leb (length m₁.strings / 2) c₁.strings) 10 3 c₁.at _ m₁ bs ret (lit≤ tt) (lit≤ tt) (λ q.
      let d = leb-false (length m₁.strings / 2) c₁.strings q in
      let z = sim-text y sp.begin sp.size (b ∷ ys) (omega arith) (e, w) in
      fine {c = strings_to c₁ (c₁.strings + 1)} l (record {
        inv = lasting.quiet c₁.store j (omega arith)
            (quiet_of sp.begin m₁ c₁ m₁.store _ m₁.traits c₁.at c₁.store _ c₁.traits (omega arith) (omega arith) (λ i l. refl)) z;
        text = (e, w);
        up = up;
      }))))

  no_text : (m : Memory) (c : Cursor) (s : Tables) (bs : List ℕ) → J c.store m c s → Left whole c.at bs
      → Agree whole (GotText c) (ok no_span m c bs) (std.text_of (New zero) s c.at bs)
  unfolding std.text_of std.chars std.bytes std.kept_text valid_text follow part
  no_text m c s bs j l = fine {a = no_span} l (record { inv = j; text = (refl, omega arith); up = omega arith })

  pub text_of-alike : (at : Span → Reader Unit) → Reserving at → (z : Size) (m : Memory) (c : Cursor) (s : Tables) (bs : List ℕ) → J c.store m c s
      → Left whole c.at bs → Agree whole (GotText c) (our.text_of at z m c bs) (std.text_of z s c.at bs)
  unfolding our.text_of std.text_of std.chars reserved
  text_of-alike at r (Old i) m c s bs j l = old-text i m c s bs j l
  text_of-alike at r (New zero) m c s bs j l = no_text m c s bs j l
  text_of-alike at r (New (suc n)) m c s bs j l =
      let x = lasting.sim j in
      let a = x.store_in in
      rw (le-ltb (length m.store) c.store a)
      (limit (λ u. m) (ltb (length m.store) (c.store + suc n)) 10 2 c.at _ m bs _ (lit≤ tt) (lit≤ tt) (λ q.
      let d = ltb-false (length m.store) (c.store + suc n) q in
      let sp : Span = span c.store (suc n) in
      let j₁ = lasting.quiet c.store j (omega arith) (quiet_reserve c.store m c (c.store + suc n) (omega arith))
      (sim_reserve x (c.store + suc n) (omega arith) d) in
      let k = r.done sp bs j₁ in
      rw (k.1, flat, flat) (then _ _ (chars-alike n 0 c.store [] sp k.0 (store_to c (c.store + suc n)) s bs k.2 (omega arith)
      (part_none k.0.store c.store) (omega arith) (omega arith) l)
      (λ v m₁ c₁ ys s₁ bs l g. rw (g.0 ∙ fold_valid ys) (bytes-there (valid_text ys) n c m₁ c₁ ys s₁ bs l g.1)))))
    where
      bytes-there : (v : Bool) (n : ℕ) (c : Cursor) (m₁ : Memory) (c₁ : Cursor) (ys : List ℕ) (s₁ : Tables) (bs : List ℕ) → Left whole c₁.at bs
          → GotBytes c.store (span c.store (suc n)) [] (suc n) (store_to c (c.store + suc n)) m₁ c₁ ys s₁
          → Agree whole (GotText c) (decided (on_strings (text_end (span c.store (suc n)) v) m₁ c₁) m₁ bs)
          (bind (cond v (ret ys) (std.fail 8 0) s₁ c₁.at bs) std.kept_text)
      bytes-there v n c m₁ c₁ [] s₁ bs l g = let e = g.many in absurd (omega arith)
      bytes-there v n c m₁ c₁ (b ∷ ys) s₁ bs l g =
          let e = g.up in
          let f = g.more in
          new-text v c (span c.store (suc n)) m₁ c₁ s₁ b ys bs (omega arith) (omega arith) g.inv g.text l

  pub text-then : {A B : Type 0} {Q : A → Memory → Cursor → B → Tables → Type 0} (at : Span → Reader Unit) → Reserving at
      → (m : Memory) (c : Cursor) (s : Tables) (bs : List ℕ) (f : Span → Reader A) (g : List ℕ → Std B) → J c.store m c s → Left whole c.at bs
      → ((sp : Span) (m₁ : Memory) (c₁ : Cursor) (xs : List ℕ) (s₁ : Tables) (bs : List ℕ) → Left whole c₁.at bs → J c₁.store m₁ c₁ s₁
      → Text m₁.store c₁.store sp.begin sp.size xs → c.at < c₁.at → Agree whole Q (f sp m₁ c₁ bs) (g xs s₁ c₁.at bs))
      → Agree whole Q (bind (our.text at m c bs) f) (bind (std.text s c.at bs) g)
  unfolding our.text std.text
  text-then at r m c s bs f g j l k = rw (flat, flat) (word-then whole octets m s 3 0 c bs _ _ (omega arith) (lit< tt) l (λ w n bs l a i.
      rw (size_is w) (then _ _ (text_of-alike at r (size_of w) m (at_to c n) s bs (moved n j (omega arith) i) l) (λ sp m₁ c₁ xs s₁ bs l h. let e = h.up in
      k sp m₁ c₁ xs s₁ bs l h.inv h.text (omega arith)))))

-- The loans' reading beside the standard's: where the standard gives, and its result needs no more room than the loans have, the reading is not ended by a loan or a limit.
use mathlib.Core.Path.{◌≡◌, refl, ◌∙◌}
use mathlib.Core.Bool.{false}
use mathlib.Core.List.{List, [], ◌∷◌, ◌++◌}
use mathlib.Core.Option.{none, some}
use Prim.Native.Nat.{ℕ, ◌+◌, ◌*◌, ◌-◌, ◌<◌, ◌≤◌}
use native.Mathlib.Omega.{arith}
use lib.ListN.{length, get_or, set}
use Rattle.rows.specs.declared.Cursor.{Cursor}
use Rattle.rows.specs.Memory.{Memory}
use Rattle.format.specs.Decide.{Out, stop, give, lost, Decision}
use Rattle.format.specs.Reading.{ResultOf, ok, bad, Result, Reader, bind, ◌>>=◌, ret, decided, by}
use Rattle.format.specs.Standard.{Traits, Tables, with_objects, Std, Tree, shut, opened}
use Rattle.format.specs.Holds.{Room, ◌and◌, nothing}
use Rattle.meaning.proofs.Fuel.{Takes, Leaves, Level, leaves-down, takes-bind, takes-ret, shut-takes, opened-takes}
use Rattle.format.proofs.Alike.{flat}
use Rattle.meaning.proofs.Holds.{Fits, Uses, Within, limit, Good, Goes}
use Rattle.format.specs.Refusals as refusals
use Rattle.rows.specs.Memory.{span_width, trait_width}

-- ---- what the standard's results have in common

abbrev pub All : {B : Type 0} → (B → Type 0) → ResultOf Tables ℕ B → Type 0
All Q (ok b s p bs) = Q b
All Q (bad number told place s) = Unit {0}

pub record Gives {B : Type 0} (Q : B → Type 0) (g : Std B) : Type 0 where
  pub takes : Takes 0 g
  pub gives : (s : Tables) (p : ℕ) (bs : List ℕ) → All Q (g s p bs)

module _ {A B : Type 0} {R : A → Type 0} {Q : B → Type 0} where
  all-bind : (r : ResultOf Tables ℕ A) (f : A → Std B) → All R r → ((a : A) → R a → Gives Q (f a)) → All Q (bind r f)
  all-bind (ok a s p bs) f l h = (h a l).gives s p bs
  all-bind (bad number told place s) f l h = tt

  then-leaves : (n : ℕ) (r : ResultOf Tables ℕ A) (f : A → Std B) → All R r → Leaves 0 n r → ((a : A) → R a → Gives Q (f a)) → Leaves 0 n (bind r f)
  then-leaves n (ok a s p bs) f q l h = leaves-down 0 0 (length bs) n (f a s p bs) (omega arith) ((h a q).takes.leaves s p bs)
  then-leaves n (bad number told place s) f q l h = tt

  then-level : (n : ℕ) (r : ResultOf Tables ℕ A) (f : A → Std B) → All R r → Level n r → ((a : A) → R a → Gives Q (f a)) → Level n (bind r f)
  then-level n (ok a s p bs) f q l h = rw l at ((h a q).takes.level s p bs)
  then-level n (bad number told place s) f q l h = tt

  pub gives_then : {g : Std A} {f : A → Std B} → Gives R g → ((a : A) → R a → Gives Q (f a)) → Gives Q (g >>= f)
  gives_then {g = g} {f = f} t h =
      record {
        takes = record {
          leaves = λ s p bs. then-leaves (length bs) (g s p bs) f (t.gives s p bs) (t.takes.leaves s p bs) h;
          level = λ s p bs. then-level (p + length bs) (g s p bs) f (t.gives s p bs) (t.takes.level s p bs) h;
        };
        gives = λ s p bs. all-bind (g s p bs) f (t.gives s p bs) h;
      }

module _ {A B : Type 0} {Q : B → Type 0} where
  all_any : (r : ResultOf Tables ℕ A) (f : A → Std B) → ((a : A) → Gives Q (f a)) → All Q (bind r f)
  all_any (ok a s p bs) f h = (h a).gives s p bs
  all_any (bad number told place s) f h = tt

  pub gives-bind : {g : Std A} {f : A → Std B} → Takes 0 g → ((a : A) → Gives Q (f a)) → Gives Q (g >>= f)
  gives-bind {g = g} {f = f} t h = record { takes = takes-bind t (λ a. (h a).takes); gives = λ s p bs. all_any (g s p bs) f h }

pub gives-ret : {B : Type 0} {Q : B → Type 0} {b : B} → Q b → Gives Q (ret b)
gives-ret q = record { takes = takes-ret; gives = λ s p bs. q }

pub gives-fail : {B : Type 0} {Q : B → Type 0} {g : Std B} → Takes 0 g → ((s : Tables) (p : ℕ) (bs : List ℕ) → All Q (g s p bs)) → Gives Q g
gives-fail t h = record { takes = t; gives = h }

pub gives-shut : {Q : Tree → Type 0} (i : ℕ) (t : Tree) → Q t → Gives Q (shut i t)
unfolding shut
gives-shut i t q = record { takes = shut-takes i t; gives = λ s p bs. q }

all_up : {B : Type 0} {Q : B → Type 0} → ((b : B) → Q b) → (r : ResultOf Tables ℕ B) → All Q r
all_up h (ok b s p bs) = h b
all_up h (bad number told place s) = tt

pub gives_up : {B : Type 0} {Q : B → Type 0} {g : Std B} → ((b : B) → Q b) → Takes 0 g → Gives Q g
gives_up {g = g} h t = record { takes = t; gives = λ s p bs. all_up h (g s p bs) }

-- ---- the loans and the tables, as far as sizes go

abbrev pub no_traits : Traits
no_traits = record { class = []; dynamic = 0; names = [] }

pub record Small (m : Memory) (c : Cursor) (s : Tables) : Type 0 where
  pub inside : Fits 0 nothing m c
  pub texts : c.strings ≡ length s.texts
  pub sizes : (i : ℕ) → i < c.strings → get_or m.strings (i * span_width + 1) 0 ≡ length (get_or s.texts i [])
  pub kinds : c.traits ≡ length s.traits
  pub marks : (i : ℕ) → i < c.traits → get_or m.traits (i * trait_width + 2) 0 ≡ (get_or s.traits i no_traits).dynamic
  pub counts : (i : ℕ) → i < c.traits → get_or m.traits (i * trait_width + 4) 0 ≡ length (get_or s.traits i no_traits).names

-- ---- a reading that pays its way

abbrev pub Nice : {A : Type 0} → (A → Type 0) → ℕ → Room → Memory → Cursor → Tables → List ℕ → Result A → Type 0
Nice P k n m₀ c₀ s rest (ok a m c bs) = P a × (bs ≡ rest) × Uses k n m₀ c₀ m c × Small m c s
Nice P k n m₀ c₀ s rest (bad number told place m) = limit number ≡ false

abbrev pub Paid : {A B : Type 0} → (B → Room) → (B → Type 0) → (A → B → Type 0) → ℕ → Memory → Cursor → Result A → ResultOf Tables ℕ B → Type 0
Paid N F P T m₀ c₀ r (ok e s p rest) = Fits (T - length rest) (N e) m₀ c₀ → F e → Nice (λ a. P a e) (T - length rest) (N e) m₀ c₀ s rest r
Paid N F P T m₀ c₀ r (bad number told place s) = Unit {0}

-- N: the room that the standard's result needs; F: what else is asked of it; P: what the results have to do with each other; spent: of that room
pub record Pays {A B : Type 0} (N : B → Room) (F : B → Type 0) (P : A → B → Type 0) (spent : Room) (f : Reader A) (g : Std B) : Type 0 where
  pub takes : Takes 0 g
  pub pays : (T : ℕ) (m₀ : Memory) (c₀ : Cursor) (k : ℕ) (m : Memory) (c : Cursor) (s : Tables) (p : ℕ) (bs : List ℕ)
      → Uses k spent m₀ c₀ m c → k + length bs ≡ T → Small m c s → Paid N F P T m₀ c₀ (f m c bs) (g s p bs)

-- ---- one after the other

module _ {A B C D : Type 0} (N₁ : B → Room) (F₁ : B → Type 0) (P₁ : A → B → Type 0) (N : D → Room) (F : D → Type 0) (P : C → D → Type 0) (spent : Room)
    (Q : B → Type 0) (spent' : B → Room) (f₂ : A → Reader C) (g₂ : B → Std D) (within : (b : B) → Q b → Within (spent and N₁ b) (spent' b))
    (gives : (b : B) → Q b → Gives (λ e. Within (spent' b) (N e) × (F e → F₁ b)) (g₂ b))
    (next : (a : A) (b : B) → P₁ a b → Q b → Pays N F P (spent' b) (f₂ a) (g₂ b)) (T k : ℕ) (m₀ : Memory) (c₀ : Cursor) (m : Memory) (c : Cursor) (bs : List ℕ)
    (u : Uses k spent m₀ c₀ m c) (t : k + length bs ≡ T) where
  nice-bind : (s₁ : Tables) (bs₁ : List ℕ) (b : B) (e : D) (s' : Tables) (rest : List ℕ) (r : Result A) → Q b → length rest ≤ length bs₁
      → length bs₁ ≤ length bs → Within (spent' b) (N e) → Fits (T - length rest) (N e) m₀ c₀
      → Nice (λ a. P₁ a b) (length bs - length bs₁) (N₁ b) m c s₁ bs₁ r
      → ((a : A) (m₁ : Memory) (c₁ : Cursor) → P₁ a b → Uses (k + (length bs - length bs₁)) (spent' b) m₀ c₀ m₁ c₁ → Small m₁ c₁ s₁
      → Nice (λ a. P a e) (T - length rest) (N e) m₀ c₀ s' rest (f₂ a m₁ c₁ bs₁))
      → Nice (λ a. P a e) (T - length rest) (N e) m₀ c₀ s' rest (bind r f₂)
  nice-bind s₁ bs₁ b e s' rest (ok a m₁ c₁ bs') q l l' v fit h go =
      let w = within b q in
      rw h.1 (go a m₁ c₁ h.0 (λ l x f. h.2 l x (u (length bs - length bs₁ + l) (N₁ b and x) (omega arith))) h.3)
  nice-bind s₁ bs₁ b e s' rest (bad number told place m₁) q l l' v fit h go = h

  paid-next : (b : B) (s₁ : Tables) (p₁ : ℕ) (bs₁ : List ℕ) (r : Result A) → Q b → length bs₁ ≤ length bs → Paid N₁ F₁ P₁ (length bs) m c r (ok b s₁ p₁ bs₁)
      → (y : ResultOf Tables ℕ D) → Leaves 0 (length bs₁) y → All (λ e. Within (spent' b) (N e) × (F e → F₁ b)) y
      → ((a : A) (m₁ : Memory) (c₁ : Cursor) → P₁ a b → Uses (k + (length bs - length bs₁)) (spent' b) m₀ c₀ m₁ c₁ → Small m₁ c₁ s₁
      → Paid N F P T m₀ c₀ (f₂ a m₁ c₁ bs₁) y) → Paid N F P T m₀ c₀ (bind r f₂) y
  paid-next b s₁ p₁ bs₁ r j l h (bad number told place s) v q go = tt
  paid-next b s₁ p₁ bs₁ r j l h (ok e s p rest) v q go = λ fit i.
      let w = within b j in
      let z = q.0 in
      nice-bind s₁ bs₁ b e s rest r j (omega arith) l z fit (h (u (length bs - length bs₁) (N₁ b) (omega arith)) (q.1 i)) (λ a m₁ c₁ x u₁ y. go a m₁ c₁ x u₁ y fit i)

  paid-bind : (r : Result A) (y : ResultOf Tables ℕ B) → All Q y → Leaves 0 (length bs) y → Paid N₁ F₁ P₁ (length bs) m c r y → Paid N F P T m₀ c₀ (bind r f₂) (bind y g₂)
  paid-bind r (bad number told place s) j l h = tt
  paid-bind r (ok b s₁ p₁ bs₁) j l h =
      let q = gives b j in
      paid-next b s₁ p₁ bs₁ r j (omega arith) h (g₂ b s₁ p₁ bs₁) (q.takes.leaves s₁ p₁ bs₁) (q.gives s₁ p₁ bs₁)
      (λ a m₁ c₁ x u₁ y. (next a b x j).pays T m₀ c₀ (k + (length bs - length bs₁)) m₁ c₁ s₁ p₁ bs₁ u₁ (omega arith) y)

pub pays-told : {A B C D : Type 0} {N₁ : B → Room} {F₁ : B → Type 0} {P₁ : A → B → Type 0} {N : D → Room} {F : D → Type 0} {P : C → D → Type 0}
    {spent : Room} {f₁ : Reader A} {g₁ : Std B} (Q : B → Type 0) (spent' : B → Room) (f₂ : A → Reader C) (g₂ : B → Std D) → Gives Q g₁
    → Pays N₁ F₁ P₁ nothing f₁ g₁
    → ((b : B) → Q b → Within (spent and N₁ b) (spent' b)) → ((b : B) → Q b → Gives (λ e. Within (spent' b) (N e) × (F e → F₁ b)) (g₂ b))
    → ((a : A) (b : B) → P₁ a b → Q b → Pays N F P (spent' b) (f₂ a) (g₂ b)) → Pays N F P spent (f₁ >>= f₂) (g₁ >>= g₂)
pays-told {N₁ = N₁} {F₁ = F₁} {P₁ = P₁} {N = N} {F = F} {P = P} {spent = spent} {f₁ = f₁} {g₁ = g₁} Q spent' f₂ g₂ q h within gives next =
    record {
      takes = (gives_then {Q = λ e. Unit {0}} q (λ b j. gives_up (λ e. tt) (gives b j).takes)).takes;
      pays = λ T m₀ c₀ k m c s p bs u t x. paid-bind N₁ F₁ P₁ N F P spent Q spent' f₂ g₂ within gives next T k m₀ c₀ m c bs u t (f₁ m c bs) (g₁ s p bs)
          (q.gives s p bs) (h.takes.leaves s p bs)
          (h.pays (length bs) m c 0 m c s p bs (λ l x f. omega arith) (omega arith) x);
    }

-- nothing is asked of the first result
pub pays-bind : {A B C D : Type 0} {N₁ : B → Room} {F₁ : B → Type 0} {P₁ : A → B → Type 0} {N : D → Room} {F : D → Type 0} {P : C → D → Type 0}
    {spent : Room} {f₁ : Reader A} {g₁ : Std B} (spent' : B → Room) (f₂ : A → Reader C) (g₂ : B → Std D) → Pays N₁ F₁ P₁ nothing f₁ g₁
    → ((b : B) → Within (spent and N₁ b) (spent' b)) → ((b : B) → Gives (λ e. Within (spent' b) (N e) × (F e → F₁ b)) (g₂ b))
    → ((a : A) (b : B) → P₁ a b → Pays N F P (spent' b) (f₂ a) (g₂ b)) → Pays N F P spent (f₁ >>= f₂) (g₁ >>= g₂)
pays-bind spent' f₂ g₂ h within gives next =
    pays-told (λ b. Unit {0}) spent' f₂ g₂ (gives_up (λ b. tt) h.takes) h (λ b q. within b) (λ b q. gives b) (λ a b x q. next a b x)

-- ---- the end

pub pays-ret : {A B : Type 0} {N : B → Room} {F : B → Type 0} {P : A → B → Type 0} {spent : Room} {a : A} {b : B} → Within spent (N b) → P a b
    → Pays N F P spent (ret a) (ret b)
pays-ret {b = b} w q =
    record { takes = takes-ret; pays = λ T m₀ c₀ k m c s p bs u t x fit i. (q, refl, λ l y f. u l y (omega arith), x) }

-- the standard makes something of its result, and changes no more than its objects
pub record Calm {B C : Type 0} (h : B → C) (g : B → Std C) : Type 0 where
  pub takes : (b : B) → Takes 0 (g b)
  pub to : B → Tables → Tables
  pub makes : (b : B) (s : Tables) (p : ℕ) (bs : List ℕ) → g b s p bs ≡ ok (h b) (to b s) p bs
  pub texts : (b : B) (s : Tables) → (to b s).texts ≡ s.texts
  pub traits : (b : B) (s : Tables) → (to b s).traits ≡ s.traits

small-to : {m : Memory} {c : Cursor} {s s' : Tables} → s'.texts ≡ s.texts → s'.traits ≡ s.traits → Small m c s → Small m c s'
small-to a b x =
    record {
      inside = x.inside;
      texts = rw a x.texts;
      sizes = rw a x.sizes;
      kinds = rw b x.kinds;
      marks = rw b x.marks;
      counts = rw b x.counts;
    }

module _ {A B C : Type 0} (N₁ : B → Room) (F₁ : B → Type 0) (P₁ : A → B → Type 0) (N : C → Room) (F : C → Type 0) (P : A → C → Type 0) (spent : Room)
    (h : B → C) (g : B → Std C) (calm : Calm h g) (within : (b : B) → Within (spent and N₁ b) (N (h b)) × (F (h b) → F₁ b))
    (same : (a : A) (b : B) → P₁ a b → P a (h b)) (T k : ℕ) (m₀ : Memory) (c₀ : Cursor) (m : Memory) (c : Cursor) (bs : List ℕ)
    (u : Uses k spent m₀ c₀ m c) (t : k + length bs ≡ T) where
  nice-made : (b : B) (s : Tables) (rest : List ℕ) (r : Result A) → length rest ≤ length bs
      → Nice (λ a. P₁ a b) (length bs - length rest) (N₁ b) m c s rest r
      → Nice (λ a. P a (h b)) (T - length rest) (N (h b)) m₀ c₀ (calm.to b s) rest r
  nice-made b s rest (ok a m₁ c₁ bs') l x =
      let w = (within b).0 in (
        same a b x.0,
        x.1,
        λ j y f. x.2 j y (u (length bs - length rest + j) (N₁ b and y) (omega arith)),
        small-to (calm.texts b s) (calm.traits b s) x.3,
      )
  nice-made b s rest (bad number told place m₁) l x = x

  paid-made : (r : Result A) (y : ResultOf Tables ℕ B) → Leaves 0 (length bs) y → Paid N₁ F₁ P₁ (length bs) m c r y → Paid N F P T m₀ c₀ r (bind y g)
  paid-made r (bad number told place s) l x = tt
  paid-made r (ok b s p rest) l x =
      let w = (within b).0 in
      rw (calm.makes b s p rest) λ fit i. nice-made b s rest r (omega arith) (x (u (length bs - length rest) (N₁ b) (omega arith)) ((within b).1 i))

pub pays-made : {A B C : Type 0} {N₁ : B → Room} {F₁ : B → Type 0} {P₁ : A → B → Type 0} {N : C → Room} {F : C → Type 0} {P : A → C → Type 0}
    {spent : Room} {f : Reader A} {g₁ : Std B} (h : B → C) (g : B → Std C) → Calm h g → Pays N₁ F₁ P₁ nothing f g₁
    → ((b : B) → Within (spent and N₁ b) (N (h b)) × (F (h b) → F₁ b)) → ((a : A) (b : B) → P₁ a b → P a (h b)) → Pays N F P spent f (g₁ >>= g)
pays-made {N₁ = N₁} {F₁ = F₁} {P₁ = P₁} {N = N} {F = F} {P = P} {spent = spent} {f = f} {g₁ = g₁} h g calm x within same =
    record {
      takes = takes-bind x.takes calm.takes;
      pays = λ T m₀ c₀ k m c s p bs u t y. paid-made N₁ F₁ P₁ N F P spent h g calm within same T k m₀ c₀ m c bs u t (f m c bs) (g₁ s p bs)
          (x.takes.leaves s p bs) (x.pays (length bs) m c 0 m c s p bs (λ l x f. omega arith) (omega arith) y);
    }

pub calm_ret : {B C : Type 0} (h : B → C) → Calm h (λ b. ret (h b))
calm_ret h =
    record { takes = λ b. takes-ret; to = λ b s. s; makes = λ b s p bs. refl; texts = λ b s. refl; traits = λ b s. refl }

pub calm_shut : {B : Type 0} (i : ℕ) (h : B → Tree) → Calm h (λ b. shut i (h b))
unfolding shut
calm_shut i h =
    record {
      takes = λ b. shut-takes i (h b);
      to = λ b s. with_objects (set s.objects i (some (h b))) s;
      makes = λ b s p bs. refl;
      texts = λ b s. refl;
      traits = λ b s. refl;
    }

-- the standard opens an object, before all else
pub pays-opened : {A B : Type 0} {N : B → Room} {F : B → Type 0} {P : A → B → Type 0} {spent : Room} {f : Reader A} (g : ℕ → Std B)
    → ((i : ℕ) → Pays N F P spent f (g i)) → Pays N F P spent f (opened >>= g)
unfolding opened
pays-opened {f = f} g h =
    record {
      takes = takes-bind opened-takes (λ i. (h i).takes);
      pays = λ T m₀ c₀ k m c s p bs u t x. (h (length s.objects)).pays T m₀ c₀ k m c (with_objects (s.objects ++ none ∷ []) s) p bs u t
          (small-to refl refl x);
    }

-- ---- decisions

-- strings and traits stay
pub data Keeps {A : Type 0} (m : Memory) (c : Cursor) : Out Memory A → Type 0 where
  halts : {number told place : ℕ} → Keeps m c (stop number told place)
  stays : {a : A} {m' : Memory} {c' : Cursor} → m'.strings ≡ m.strings → m'.traits ≡ m.traits → c'.strings ≡ c.strings → c'.traits ≡ c.traits
      → Keeps m c (give a m' c')

pub record Spends {A : Type 0} (P : A → Type 0) (d : Decision A) (n : Room) : Type 0 where
  pub goes : Goes P (by d) [] n
  pub keeps : (m : Memory) (c : Cursor) → Keeps m c (d m c)

pub small-kept : {A : Type 0} {y : A} {m m' : Memory} {c c' : Cursor} {s : Tables} → Fits 0 nothing m' c' → Keeps m c (give y m' c') → Small m c s → Small m' c' s
small-kept i (stays a b d e) x =
    record {
      inside = i;
      texts = d ∙ x.texts;
      sizes = rw (a, d) x.sizes;
      kinds = e ∙ x.kinds;
      marks = rw (b, e) x.marks;
      counts = rw (b, e) x.counts;
    }

module _ {A C D : Type 0} (P₁ : A → Type 0) (n : Room) (N : D → Room) (F : D → Type 0) (P : C → D → Type 0) (spent spent' : Room)
    (f₂ : A → Reader C) (within : Within (spent and n) spent') (T k : ℕ) (m₀ : Memory) (c₀ : Cursor) (m : Memory) (c : Cursor) (s : Tables) (bs : List ℕ)
    (u : Uses k spent m₀ c₀ m c) (x : Small m c s) where
  nice-by : (y : ResultOf Tables ℕ D) (o : Out Memory A) → Fits 0 n m c → Keeps m c o → Good P₁ 0 n m c bs (decided o m bs)
      → ((a : A) (m₁ : Memory) (c₁ : Cursor) → P₁ a → Uses k spent' m₀ c₀ m₁ c₁ → Small m₁ c₁ s → Paid N F P T m₀ c₀ (f₂ a m₁ c₁ bs) y)
      → Paid N F P T m₀ c₀ (bind (decided o m bs) f₂) y
  nice-by (bad number told place s') o h q g go = tt
  nice-by (ok e s' p rest) (stop number told place) h q g go = λ fit i. g
  nice-by (ok e s' p rest) (give a m₁ c₁) h q g go = go a m₁ c₁ g.0 (λ l y f. g.2 l y (let z = u l (n and y) (omega arith) in omega arith))
      (small-kept (g.2 0 nothing (omega arith)) q x)

-- one that takes nothing
pub pays-free : {A C D : Type 0} {P₁ : A → Type 0} {N : D → Room} {F : D → Type 0} {P : C → D → Type 0} {spent : Room} {d : Decision A} {g : Std D}
    (f : A → Reader C) → Takes 0 g → Spends P₁ d nothing → ((a : A) → P₁ a → Pays N F P spent (f a) g) → Pays N F P spent (by d >>= f) g
pays-free {P₁ = P₁} {N = N} {F = F} {P = P} {spent = spent} {d = d} {g = g} f takes h next =
    record {
      takes = takes;
      pays = λ T m₀ c₀ k m c s p bs u t x. nice-by P₁ nothing N F P spent spent f (omega arith) T k m₀ c₀ m c s bs u x (g s p bs) (d m c) x.inside
          (h.keeps m c) (h.goes.goes m c bs x.inside) (λ a m₁ c₁ q u₁ x₁. (next a q).pays T m₀ c₀ k m₁ c₁ s p bs u₁ t x₁);
    }

-- one that takes n
module _ {C D : Type 0} (n : Room) (N : D → Room) (F : D → Type 0) (P : C → D → Type 0) (spent spent' : Room) where
  fits_by : (T k : ℕ) (m₀ : Memory) (c₀ : Cursor) (m : Memory) (c : Cursor) (bs rest : List ℕ) (e : D) → Within (spent and n) spent'
      → Within spent' (N e) → 0 + length rest ≤ length bs → k + length bs ≡ T → Uses k spent m₀ c₀ m c → Fits (T - length rest) (N e) m₀ c₀ → Fits 0 n m c
  fits_by T k m₀ c₀ m c bs rest e w v l t u f = u 0 n (omega arith)

  pub paid-by : (y : ResultOf Tables ℕ D) (r : Result C) (T k : ℕ) (m₀ : Memory) (c₀ : Cursor) (m : Memory) (c : Cursor) (bs : List ℕ)
      → Within (spent and n) spent' → All (λ e. Within spent' (N e)) y → Leaves 0 (length bs) y → k + length bs ≡ T → Uses k spent m₀ c₀ m c
      → (Fits 0 n m c → Paid N F P T m₀ c₀ r y) → Paid N F P T m₀ c₀ r y
  paid-by (bad number told place s) r T k m₀ c₀ m c bs w v l t u h = tt
  paid-by (ok e s p rest) r T k m₀ c₀ m c bs w v l t u h = λ fit i. h (fits_by T k m₀ c₀ m c bs rest e w v l t u fit) fit i

pub pays-by : {A C D : Type 0} {P₁ : A → Type 0} {N : D → Room} {F : D → Type 0} {P : C → D → Type 0} {spent : Room} {d : Decision A} {g : Std D}
    (n spent' : Room) (f : A → Reader C) → Within (spent and n) spent' → Gives (λ e. Within spent' (N e)) g → Spends P₁ d n
    → ((a : A) → P₁ a → Pays N F P spent' (f a) g) → Pays N F P spent (by d >>= f) g
pays-by {P₁ = P₁} {N = N} {F = F} {P = P} {spent = spent} {d = d} {g = g} n spent' f w gives h next =
    record {
      takes = gives.takes;
      pays = λ T m₀ c₀ k m c s p bs u t x. paid-by n N F P spent spent' (g s p bs) (bind (by d m c bs) f) T k m₀ c₀ m c bs w (gives.gives s p bs)
          (gives.takes.leaves s p bs) t u (λ z. nice-by P₁ n N F P spent spent' f w T k m₀ c₀ m c s bs u x (g s p bs) (d m c) z
          (h.keeps m c) (h.goes.goes m c bs z) (λ a m₁ c₁ q u₁ x₁. (next a q).pays T m₀ c₀ k m₁ c₁ s p bs u₁ t x₁));
    }

-- brackets
flat-paid : {A B C D : Type 0} (N : D → Room) (F : D → Type 0) (P : C → D → Type 0) (T : ℕ) (m₀ : Memory) (c₀ : Cursor) (y : ResultOf Tables ℕ D)
    (v : Result A) (f : A → Reader B) (h : B → Reader C) → Paid N F P T m₀ c₀ (bind v (λ a m c bs. bind (f a m c bs) h)) y → Paid N F P T m₀ c₀ (bind (bind v f) h) y
flat-paid N F P T m₀ c₀ y v f h x = rw flat x

pub pays-flat : {A B C D : Type 0} {N : D → Room} {F : D → Type 0} {P : C → D → Type 0} {spent : Room} {g : Std D} (e : Reader A) (f : A → Reader B)
    (h : B → Reader C) → Pays N F P spent (e >>= (λ a. f a >>= h)) g → Pays N F P spent (e >>= f >>= h) g
pays-flat {N = N} {F = F} {P = P} {g = g} e f h x =
    record {
      takes = x.takes;
      pays = λ T m₀ c₀ k m c s p bs u t z. flat-paid N F P T m₀ c₀ (g s p bs) (e m c bs) f h (x.pays T m₀ c₀ k m c s p bs u t z);
    }

-- the reading's last decision
ret-after : {A : Type 0} (v : Result A) → bind v (λ a. ret a) ≡ v
ret-after (ok a m c bs) = refl
ret-after (bad n t p m) = refl

pub pays-end : {C D : Type 0} {N : D → Room} {F : D → Type 0} {P : C → D → Type 0} {spent : Room} {g : Std D} (f : Reader C)
    → Pays N F P spent (f >>= (λ a. ret a)) g → Pays N F P spent f g
pays-end {N = N} {F = F} {P = P} {g = g} f x =
    record {
      takes = x.takes;
      pays = λ T m₀ c₀ k m c s p bs u t z. rw ret-after at (x.pays T m₀ c₀ k m c s p bs u t z);
    }

-- a decision behind it all
module _ {A C D : Type 0} (P₁ : C → Type 0) (N : D → Room) (F : D → Type 0) (P : A → D → Type 0) (d : A → Decision C) (h : (a : A) → Spends P₁ (d a) nothing) where
  nice-last : (k : ℕ) (n : Room) (m₀ : Memory) (c₀ : Cursor) (s : Tables) (rest : List ℕ) (m : Memory) (c : Cursor) (o : Out Memory C) → Small m c s
      → Uses k n m₀ c₀ m c → Keeps m c o → Good P₁ 0 nothing m c rest (decided o m rest) → Nice P₁ k n m₀ c₀ s rest (decided o m rest)
  nice-last k n m₀ c₀ s rest m c (stop number told place) x u q g = g
  nice-last k n m₀ c₀ s rest m c (give a m₁ c₁) x u q g =
      (g.0, refl, λ l y f. g.2 l y (let z = u l y f in omega arith), small-kept (g.2 0 nothing (let z = x.inside in omega arith)) q x)

  paid-last : (T : ℕ) (m₀ : Memory) (c₀ : Cursor) (r : Result A) (y : ResultOf Tables ℕ D) → Paid N F P T m₀ c₀ r y
      → Paid N F (λ a e. P₁ a) T m₀ c₀ (bind r (λ a. by (d a))) y
  paid-last T m₀ c₀ r (bad number told place s) x = tt
  paid-last T m₀ c₀ (bad number told place m) (ok e s p rest) x = λ fit i. x fit i
  paid-last T m₀ c₀ (ok a m c bs) (ok e s p rest) x = λ fit i.
      let z = x fit i in
      rw z.1 (nice-last (T - length rest) (N e) m₀ c₀ s rest m c (d a m c) z.3 z.2 ((h a).keeps m c) ((h a).goes.goes m c rest z.3.inside))

pub pays-last : {A C D : Type 0} {P₁ : C → Type 0} {N : D → Room} {F : D → Type 0} {P : A → D → Type 0} {spent : Room} {f : Reader A} {g : Std D}
    (d : A → Decision C) → ((a : A) → Spends P₁ (d a) nothing) → Pays N F P spent f g → Pays N F (λ a e. P₁ a) spent (f >>= (λ a. by (d a))) g
pays-last {P₁ = P₁} {N = N} {F = F} {P = P} {f = f} {g = g} d h x =
    record {
      takes = x.takes;
      pays = λ T m₀ c₀ k m c s p bs u t z. paid-last P₁ N F P d h T m₀ c₀ (f m c bs) (g s p bs) (x.pays T m₀ c₀ k m c s p bs u t z);
    }

-- a state that doesn't hold together is no matter of room
pub paid-lost : {A D : Type 0} (N : D → Room) (F : D → Type 0) (P : A → D → Type 0) (T : ℕ) (m₀ : Memory) (c₀ : Cursor) (m : Memory) (y : ResultOf Tables ℕ D)
    → Paid N F P T m₀ c₀ (bad refusals.lost 0 0 m) y
paid-lost N F P T m₀ c₀ m (ok e s p rest) = λ fit i. refl
paid-lost N F P T m₀ c₀ m (bad number told place s) = tt

pub pays-lost : {A D : Type 0} {N : D → Room} {F : D → Type 0} {P : A → D → Type 0} {spent : Room} {g : Std D} → Takes 0 g → Pays N F P spent (by (λ m c. lost)) g
pays-lost {N = N} {F = F} {P = P} {g = g} t = record { takes = t; pays = λ T m₀ c₀ k m c s p bs u e x. paid-lost N F P T m₀ c₀ m (g s p bs) }

-- brackets of the standard's
pub pays-flat_std : {A B C D : Type 0} {N : D → Room} {F : D → Type 0} {P : C → D → Type 0} {spent : Room} (f : Reader C) (g₁ : Std A) (g₂ : A → Std B)
    (g₃ : B → Std D) → Pays N F P spent f (g₁ >>= (λ a. g₂ a >>= g₃)) → Takes 0 (g₁ >>= g₂ >>= g₃) → Pays N F P spent f (g₁ >>= g₂ >>= g₃)
pays-flat_std {N = N} {F = F} {P = P} f g₁ g₂ g₃ x t =
    record { takes = t; pays = λ T m₀ c₀ k m c s p bs u e z. rw flat (x.pays T m₀ c₀ k m c s p bs u e z) }

-- less was spent
pub pays-less : {A D : Type 0} {N : D → Room} {F : D → Type 0} {P : A → D → Type 0} {spent : Room} {f : Reader A} {g : Std D} (spent' : Room) → Within spent spent'
    → Pays N F P spent' f g → Pays N F P spent f g
pays-less spent' w x =
    record { takes = x.takes; pays = λ T m₀ c₀ k m c s p bs u t z. x.pays T m₀ c₀ k m c s p bs (λ l y f. u l y (omega arith)) t z }

-- one that looks at the cursor
pub pays-cursor : {A D : Type 0} {N : D → Room} {F : D → Type 0} {P : A → D → Type 0} {spent : Room} {g : Std D} (f : Cursor → Reader A) → Takes 0 g
    → ((c : Cursor) → Pays N F P spent (f c) g) → Pays N F P spent (λ m c. f c m c) g
pays-cursor f t h = record { takes = t; pays = λ T m₀ c₀ k m c s p bs u e z. (h c).pays T m₀ c₀ k m c s p bs u e z }

-- what the standard never gives
pub pays_void : {A D : Type 0} {N : D → Room} {F : D → Type 0} {P : A → D → Type 0} {spent : Room} {f : Reader A} {g : Std D} → Gives (λ e. ⊥) g → Pays N F P spent f g
pays_void {A = A} {D = D} {N = N} {F = F} {P = P} {f = f} {g = g} h =
    record { takes = h.takes; pays = λ T m₀ c₀ k m c s p bs u e z. out T m₀ c₀ (f m c bs) (g s p bs) (h.gives s p bs) }
  where
    out : (T : ℕ) (m₀ : Memory) (c₀ : Cursor) (r : Result A) (y : ResultOf Tables ℕ D) → All (λ e. ⊥) y → Paid N F P T m₀ c₀ r y
    out T m₀ c₀ r (ok e s p rest) q = absurd q
    out T m₀ c₀ r (bad number told place s) q = tt

-- the standard's last step leaves its result
module _ {A D : Type 0} (N : D → Room) (F : D → Type 0) (P : A → D → Type 0) (g : D → Std D) (calm : Calm (λ b. b) g) where
  nice_calm : (k : ℕ) (n : Room) (m₀ : Memory) (c₀ : Cursor) (e : D) (s : Tables) (rest : List ℕ) (r : Result A) → Nice (λ a. P a e) k n m₀ c₀ s rest r
      → Nice (λ a. P a e) k n m₀ c₀ (calm.to e s) rest r
  nice_calm k n m₀ c₀ e s rest (ok a m c bs) x = (x.0, x.1, x.2, small-to (calm.texts e s) (calm.traits e s) x.3)
  nice_calm k n m₀ c₀ e s rest (bad number told place m) x = x

  paid_calm : (T : ℕ) (m₀ : Memory) (c₀ : Cursor) (r : Result A) (y : ResultOf Tables ℕ D) → Paid N F P T m₀ c₀ r y → Paid N F P T m₀ c₀ r (bind y g)
  paid_calm T m₀ c₀ r (bad number told place s) x = tt
  paid_calm T m₀ c₀ r (ok e s p rest) x = rw (calm.makes e s p rest) λ fit i. nice_calm (T - length rest) (N e) m₀ c₀ e s rest r (x fit i)

pub pays_calm : {A D : Type 0} {N : D → Room} {F : D → Type 0} {P : A → D → Type 0} {spent : Room} {f : Reader A} {g₁ : Std D} (g : D → Std D) → Calm (λ b. b) g
    → Pays N F P spent f g₁ → Pays N F P spent f (g₁ >>= g)
pays_calm {N = N} {F = F} {P = P} {f = f} {g₁ = g₁} g calm x =
    record {
      takes = takes-bind x.takes calm.takes;
      pays = λ T m₀ c₀ k m c s p bs u t z. paid_calm N F P g calm T m₀ c₀ (f m c bs) (g₁ s p bs) (x.pays T m₀ c₀ k m c s p bs u t z);
    }

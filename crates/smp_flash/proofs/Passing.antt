-- Calls one after the other.
use Rattle.std.proofs.Common.{◌≡◌, inl, inr, ℕ, ◌+◌, ◌<◌, ◌≤◌, Bool, false, Option, Some, None, List, [], ◌∷◌, refl, sym, ◌∙◌, subst, arith}
use Rattle.smp_flash.specs.Area.{Keeps, Told, Clear, spot}
use Rattle.smp_flash.specs.Region.{Spares, counts, counts_write}
use Rattle.smp_flash.specs.State.{FlashState, Troubles, Changes, End}
use Rattle.smp_flash.specs.State.End.{Went, WentOff, Failed}
use Rattle.smp_flash.specs.declared.flash.Operation.{Operation}
use Rattle.smp_flash.specs.Calls.{NoGreater, Smaller, ReadsAtMost, ChangesAtMost, NeverFewer, writes_of, erases_of, Lowers, Rises, Goes, Passes, Undisturbed, Acts, Calls}
use Rattle.smp_flash.specs.declared.region.Region.{Region}
use Rattle.smp_flash.proofs.Areas.{Keeps-refl, Keeps-trans, Keeps-wider}
use Rattle.smp_flash.proofs.Telling.{Told-trans, Told-map, Told-same}

pub NoGreater-trans : (p q r : Option ℕ) → NoGreater p q → NoGreater q r → NoGreater p r
NoGreater-trans None None None f g = tt
NoGreater-trans None None (Some r) f g = absurd g
NoGreater-trans None (Some q) r f g = absurd f
NoGreater-trans (Some p) None r f g = absurd f
NoGreater-trans (Some p) (Some q) None f g = absurd g
NoGreater-trans (Some p) (Some q) (Some r) f g = omega arith

pub Smaller-then : (p q r : Option ℕ) → Smaller p q → NoGreater q r → Smaller p r
Smaller-then None None None f g = tt
Smaller-then None None (Some r) f g = absurd g
Smaller-then None (Some q) r f g = absurd f
Smaller-then (Some p) None r f g = absurd f
Smaller-then (Some p) (Some q) None f g = absurd g
Smaller-then (Some p) (Some q) (Some r) f g = omega arith

pub then_Smaller : (p q r : Option ℕ) → NoGreater p q → Smaller q r → Smaller p r
then_Smaller None None None f g = tt
then_Smaller None None (Some r) f g = absurd g
then_Smaller None (Some q) r f g = absurd f
then_Smaller (Some p) None r f g = absurd f
then_Smaller (Some p) (Some q) None f g = absurd g
then_Smaller (Some p) (Some q) (Some r) f g = omega arith

pub NoGreater-refl : (p : Option ℕ) → NoGreater p p
NoGreater-refl None = tt
NoGreater-refl (Some p) = omega arith

pub reads_never_fall : (n : ℕ) (p q : Option ℕ) → ReadsAtMost n p q → NoGreater q p
reads_never_fall n None None f = tt
reads_never_fall n None (Some q) f = absurd f
reads_never_fall n (Some p) None f = absurd f
reads_never_fall n (Some p) (Some q) f = f.0

-- the reads of two calls add up
pub reads_add : (m n : ℕ) (p q r : Option ℕ) → ReadsAtMost m p q → ReadsAtMost n q r → ReadsAtMost (m + n) p r
reads_add m n None None None f g = tt
reads_add m n None None (Some r) f g = absurd g
reads_add m n None (Some q) r f g = absurd f
reads_add m n (Some p) None r f g = absurd f
reads_add m n (Some p) (Some q) None f g = absurd g
reads_add m n (Some p) (Some q) (Some r) f g = (omega arith, omega arith)

pub reads_more : (m n : ℕ) (p q : Option ℕ) → m ≤ n → ReadsAtMost m p q → ReadsAtMost n p q
reads_more m n None None le f = tt
reads_more m n None (Some q) le f = absurd f
reads_more m n (Some p) None le f = absurd f
reads_more m n (Some p) (Some q) le f = (f.0, omega arith)

pub reads_none : (p : Option ℕ) → ReadsAtMost 0 p p
reads_none None = tt
reads_none (Some p) = (omega arith, omega arith)

pub changes_never_fall : (m n : ℕ) (p q : Option Changes) → ChangesAtMost m n p q → NeverFewer p q
changes_never_fall m n None None f = tt
changes_never_fall m n None (Some q) f = absurd f
changes_never_fall m n (Some p) None f = absurd f
changes_never_fall m n (Some p) (Some q) f = (f.0, f.2)

-- the writes and erases of two calls add up
pub changes_add : (m n i j : ℕ) (p q r : Option Changes) → ChangesAtMost m i p q → ChangesAtMost n j q r → ChangesAtMost (m + n) (i + j) p r
changes_add m n i j None None None f g = tt
changes_add m n i j None None (Some r) f g = absurd g
changes_add m n i j None (Some q) r f g = absurd f
changes_add m n i j (Some p) None r f g = absurd f
changes_add m n i j (Some p) (Some q) None f g = absurd g
changes_add m n i j (Some p) (Some q) (Some r) f g =
    (omega (arith, f.0, g.0), omega (arith, f.1, g.1), omega (arith, f.2, g.2), omega (arith, f.3, g.3))

pub changes_more : (m n i j : ℕ) (p q : Option Changes) → m ≤ n → i ≤ j → ChangesAtMost m i p q → ChangesAtMost n j p q
changes_more m n i j None None a b f = tt
changes_more m n i j None (Some q) a b f = absurd f
changes_more m n i j (Some p) None a b f = absurd f
changes_more m n i j (Some p) (Some q) a b f =
    (f.0, omega (arith, f.1, a), f.2, omega (arith, f.3, b))

pub changes_none : (p : Option Changes) → ChangesAtMost 0 0 p p
changes_none None = tt
changes_none (Some p) = (omega arith, omega arith, omega arith, omega arith)

pub NeverFewer-refl : (p : Option Changes) → NeverFewer p p
NeverFewer-refl None = tt
NeverFewer-refl (Some p) = (omega arith, omega arith)

pub NeverFewer-trans : (p q r : Option Changes) → NeverFewer p q → NeverFewer q r → NeverFewer p r
NeverFewer-trans None None None f g = tt
NeverFewer-trans None None (Some r) f g = absurd g
NeverFewer-trans None (Some q) r f g = absurd f
NeverFewer-trans (Some p) None r f g = absurd f
NeverFewer-trans (Some p) (Some q) None f g = absurd g
NeverFewer-trans (Some p) (Some q) (Some r) f g =
    (omega (arith, f.0, g.0), omega (arith, f.1, g.1))

pub Goes-refl : (a : FlashState) → Goes a a
Goes-refl a = record { idle = λ off. refl; geometry = refl; faults = refl; on = refl; troubles = refl; aim = refl; patience = NoGreater-refl a.patience; costs = λ e. inl refl }

pub Goes-trans : (a b c : FlashState) → Goes a b → Goes b c → Goes a c
Goes-trans a b c f g = record {
  idle = λ off. g.idle (f.on ∙ off) ∙ f.idle off;
  geometry = g.geometry ∙ f.geometry;
  faults = g.faults ∙ f.faults;
  on = g.on ∙ f.on;
  troubles = g.troubles ∙ f.troubles;
  aim = g.aim ∙ f.aim;
  patience = NoGreater-trans a.patience b.patience c.patience f.patience g.patience;
  costs = λ any. elim (f.costs any) [
    | inr less ↦ inr (Smaller-then a.patience b.patience c.patience less g.patience)
    | inl same ↦ elim (g.costs (f.aim ∙ any)) [
      | inl same_too ↦ inl (same_too ∙ same)
      | inr less ↦ inr (then_Smaller a.patience b.patience c.patience f.patience less)
    ]
  ];
}

-- a call that goes through, and then one that ends somehow
pub Passes-after : (end : End) (a b c : FlashState) → Goes a b → Passes end b c → Passes end a c
Passes-after Went a b c f g = Goes-trans a b c f g
Passes-after WentOff a b c f g = record {
  geometry = g.geometry ∙ f.geometry;
  faults = g.faults ∙ f.faults;
  off = g.off;
  idle = λ off. g.idle (f.on ∙ off) ∙ f.idle off;
  troubles = λ on. subst (λ (t : Option Troubles). Lowers WentOff t c.troubles) f.troubles (g.troubles (f.on ∙ on));
}
Passes-after (Failed operation) a b c f g = record {
  geometry = g.geometry ∙ f.geometry;
  rises = subst (λ t. Rises operation t c.faults) f.faults g.rises;
  was_on = sym f.on ∙ g.was_on;
  on = g.on;
  troubles = subst (λ (t : Option Troubles). Lowers (Failed operation) t c.troubles) f.troubles g.troubles;
}

pub Undisturbed-refl : (a : FlashState) → Undisturbed a a
Undisturbed-refl a = record { troubles = refl; aim = refl; patience = refl }

pub Undisturbed-trans : (a b c : FlashState) → Undisturbed a b → Undisturbed b c → Undisturbed a c
Undisturbed-trans a b c f g = record { troubles = g.troubles ∙ f.troubles; aim = g.aim ∙ f.aim; patience = g.patience ∙ f.patience }

-- spots that spare the aim spare the same aim
pub Spares-same : (spots : List (ℕ × ℕ)) (a b : FlashState) → b.geometry ≡ a.geometry → b.aim ≡ a.aim → Spares a.geometry a.aim spots → Spares b.geometry b.aim spots
Spares-same spots a b geometry aim spares =
    subst (λ g. Spares g b.aim spots) (sym geometry) (subst (λ (m : Option Region). Spares a.geometry m spots) (sym aim) spares)

pub Calls-refl : (spots : List (ℕ × ℕ)) (a : FlashState) → Calls spots Went a a
Calls-refl spots a = record {
  passes = Goes-refl a;
  spared = λ s. Undisturbed-refl a;
  keeps = Told-same (Keeps spots) a.bytes a.bytes (λ u. Keeps-refl spots u) refl;
  reads = NoGreater-refl a.bytes_read;
  changes = NeverFewer-refl a.changes;
}

pub Calls-after : (spots : List (ℕ × ℕ)) (end : End) (a b c : FlashState) → Calls spots Went a b → Calls spots end b c → Calls spots end a c
Calls-after spots end a b c f g = record {
  passes = Passes-after end a b c f.passes g.passes;
  spared = λ s. Undisturbed-trans a b c (f.spared s) (g.spared (Spares-same spots a b f.passes.geometry f.passes.aim s));
  keeps = Told-trans (Keeps spots) (Keeps spots) (Keeps spots) a.bytes b.bytes c.bytes (λ u v w k l. Keeps-trans spots u v w k l) f.keeps g.keeps;
  reads = NoGreater-trans c.bytes_read b.bytes_read a.bytes_read g.reads f.reads;
  changes = NeverFewer-trans a.changes b.changes c.changes f.changes g.changes;
}

-- what the wide spots cover
pub record Covers (wide spots : List (ℕ × ℕ)) : Type 0 where
  pub clear : (p n : ℕ) → Clear wide p n → Clear spots p n
  pub spares : (g : _) (aim : Option Region) → Spares g aim wide → Spares g aim spots

pub Calls-wider : (wide spots : List (ℕ × ℕ)) (end : End) (a b : FlashState) → Covers wide spots → Calls spots end a b → Calls wide end a b
Calls-wider wide spots end a b covers f = record {
  passes = f.passes;
  spared = λ s. f.spared (covers.spares a.geometry a.aim s);
  keeps = Told-map (Keeps spots) (Keeps wide) a.bytes b.bytes (λ u v k. Keeps-wider spots wide u v covers.clear k) f.keeps;
  reads = f.reads;
  changes = f.changes;
}

pub Covers-refl : (spots : List (ℕ × ℕ)) → Covers spots spots
Covers-refl spots = record { clear = λ p n c. c; spares = λ g aim s. s }

pub Covers-trans : (xs ys zs : List (ℕ × ℕ)) → Covers xs ys → Covers ys zs → Covers xs zs
Covers-trans xs ys zs f h = record { clear = λ p n c. h.clear p n (f.clear p n c); spares = λ g aim s. h.spares g aim (f.spares g aim s) }

-- one spot more
pub Covers-more : (wide : List (ℕ × ℕ)) (at n : ℕ) (spots : List (ℕ × ℕ)) → Covers wide (spot at n) → Covers wide spots → Covers wide ((at, n) ∷ spots)
Covers-more wide at n spots f h = record {
  clear = λ p m c. ((f.clear p m c).0, h.clear p m c);
  spares = λ g aim. elim aim as (λ o. Spares g o wide → Spares g o ((at, n) ∷ spots)) [
    | None ↦ λ s. tt
    | Some region ↦ λ s. ((f.spares g (Some region) s).0, h.spares g (Some region) s)
  ];
}

pub Covers-within : (at size wide n : ℕ) → wide ≤ at → at + size ≤ wide + n → Covers (spot wide n) (spot at size)
Covers-within at size wide n a b = record {
  clear = λ p m clear. (elim clear.0 [ inl before ↦ inl (omega arith) | inr after ↦ inr (omega arith) ], tt);
  spares = λ g aim. elim aim as (λ m. Spares g m (spot wide n) → Spares g m (spot at size)) [
    | None ↦ λ s. tt
    | Some region ↦ λ s. ((λ p low high. s.0 p (omega arith) (omega arith)), tt)
  ];
}

-- an operation that begins in spots that spare the aim does not count
counts_spared : (g : _) (aim : Option Region) (at size : ℕ) → 0 < size → Spares g aim (spot at size) → counts g aim at ≡ false
counts_spared g None at size some s = refl
counts_spared g (Some region) at size some s = rw (s.0 at (omega arith) (omega arith)) refl

counts_write_spared : (g : _) (aim : Option Region) (at size : ℕ) (bytes : List ℕ) → 0 < size → Spares g aim (spot at size) → counts_write g aim at bytes ≡ false
counts_write_spared g None at size bytes some s = refl
counts_write_spared g (Some region) at size bytes some s = rw (s.0 at (omega arith) (omega arith)) refl

pub read_Calls : (at size : ℕ) (costs : Bool) (n : ℕ) (operation : Operation) (end : End) (a b : FlashState) → 0 < size → Acts (counts a.geometry a.aim at) costs n operation end a b
    → Told (Keeps (spot at size)) a.bytes b.bytes → Calls (spot at size) end a b
read_Calls at size costs n operation end a b some acts keeps = record {
  passes = acts.passes;
  spared = λ s. acts.spared (counts_spared a.geometry a.aim at size some s);
  keeps = keeps;
  reads = reads_never_fall n a.bytes_read b.bytes_read acts.reads;
  changes = changes_never_fall (writes_of operation) (erases_of operation) a.changes b.changes acts.changes;
}

pub write_Calls : (at size : ℕ) (bytes : List ℕ) (costs : Bool) (n : ℕ) (operation : Operation) (end : End) (a b : FlashState) → 0 < size → Acts (counts_write a.geometry a.aim at bytes) costs n operation end a b
    → Told (Keeps (spot at size)) a.bytes b.bytes → Calls (spot at size) end a b
write_Calls at size bytes costs n operation end a b some acts keeps = record {
  passes = acts.passes;
  spared = λ s. acts.spared (counts_write_spared a.geometry a.aim at size bytes some s);
  keeps = keeps;
  reads = reads_never_fall n a.bytes_read b.bytes_read acts.reads;
  changes = changes_never_fall (writes_of operation) (erases_of operation) a.changes b.changes acts.changes;
}

-- two spots within a wide one
pub Covers-two : (at n mid m wide k : ℕ) → wide ≤ at → at + n ≤ wide + k → wide ≤ mid → mid + m ≤ wide + k → Covers (spot wide k) ((at, n) ∷ (mid, m) ∷ [])
Covers-two at n mid m wide k a b c d = Covers-more (spot wide k) at n (spot mid m) (Covers-within at n wide k a b) (Covers-within mid m wide k c d)

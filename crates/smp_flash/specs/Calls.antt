-- What a call may do to a flash, by how the call ended. The one relation of a layer's call is `Calls`; it composes.
use Rattle.std.specs.Prelude.{◌≡◌, ◌⊎◌, ◌↔◌, ◌+◌, ◌-◌, ◌^◌, ◌<◌, ◌≤◌, min, ℕ, List, Bool, true, false, Option, Some, None}
use Rattle.smp_flash.specs.Area.{Keeps, Told}
use Rattle.smp_flash.specs.Region.{Spares, counts, counts_write}
use Rattle.smp_flash.specs.State.{Faults, Troubles, Changes, FlashState, End}
use Rattle.smp_flash.specs.State.End.{Went, WentOff, Failed}
use Rattle.smp_flash.specs.declared.flash.Operation.{Operation}
use Rattle.smp_flash.specs.declared.flash.Operation.TheVariants.{Read, Write, Erase}
use Rattle.smp_flash.specs.declared.region.Region.{Region}
use Rattle.smp_flash.specs.declared.region.Region.TheVariants.{Any}

-- the number never falls, and it rose or stands at its type's end
pub record Rose (before now : ℕ) : Type 0 where
  pub kept : before ≤ now
  pub more : min (before + 1) (2 ^ 64 - 1) ≤ now

-- the number of this operation rose, and the others are as before
abbrev pub Rises : Operation → Faults → Faults → Type 0
Rises Read a b = Rose a.reads b.reads × (b.writes ≡ a.writes) × (b.erases ≡ a.erases)
Rises Write a b = (b.reads ≡ a.reads) × Rose a.writes b.writes × (b.erases ≡ a.erases)
Rises Erase a b = (b.reads ≡ a.reads) × (b.writes ≡ a.writes) × Rose a.erases b.erases

-- no trouble rose, and the one by which the call ended fell
abbrev pub Falls : End → Troubles → Troubles → Type 0
Falls Went a b = b ≡ a
Falls WentOff a b = (b.cuts < a.cuts) × (b.changes ≤ a.changes) × (b.reads ≤ a.reads)
Falls (Failed Read) a b = (b.cuts ≤ a.cuts) × (b.changes ≤ a.changes) × (b.reads < a.reads)
Falls (Failed Write) a b = (b.cuts ≤ a.cuts) × (b.changes < a.changes) × (b.reads ≤ a.reads)
Falls (Failed Erase) a b = (b.cuts ≤ a.cuts) × (b.changes < a.changes) × (b.reads ≤ a.reads)

-- the same where the troubles are told; whether they are told is the same
abbrev pub Lowers : End → Option Troubles → Option Troubles → Type 0
Lowers end None None = Unit {0}
Lowers end None (Some b) = ⊥
Lowers end (Some a) None = ⊥
Lowers end (Some a) (Some b) = Falls end a b

-- a number that may not be told is no greater, or smaller, than before; whether it is told is the same
abbrev pub NoGreater : Option ℕ → Option ℕ → Type 0
NoGreater None None = Unit {0}
NoGreater None (Some b) = ⊥
NoGreater (Some a) None = ⊥
NoGreater (Some a) (Some b) = b ≤ a

abbrev pub Smaller : Option ℕ → Option ℕ → Type 0
Smaller None None = Unit {0}
Smaller None (Some b) = ⊥
Smaller (Some a) None = ⊥
Smaller (Some a) (Some b) = b < a

-- the bytes read never fall, and rose by at most n; whether they are told is the same
abbrev pub ReadsAtMost : ℕ → Option ℕ → Option ℕ → Type 0
ReadsAtMost n None None = Unit {0}
ReadsAtMost n None (Some b) = ⊥
ReadsAtMost n (Some a) None = ⊥
ReadsAtMost n (Some a) (Some b) = (a ≤ b) × (b ≤ a + n)

-- the writes and erases never fall, and rose by at most so many; whether they are told is the same
abbrev pub ChangesAtMost : ℕ → ℕ → Option Changes → Option Changes → Type 0
ChangesAtMost writes erases None None = Unit {0}
ChangesAtMost writes erases None (Some b) = ⊥
ChangesAtMost writes erases (Some a) None = ⊥
ChangesAtMost writes erases (Some a) (Some b) = (a.writes ≤ b.writes) × (b.writes ≤ a.writes + writes) × (a.erases ≤ b.erases) × (b.erases ≤ a.erases + erases)

-- the writes and erases never fall; whether they are told is the same
abbrev pub NeverFewer : Option Changes → Option Changes → Type 0
NeverFewer None None = Unit {0}
NeverFewer None (Some b) = ⊥
NeverFewer (Some a) None = ⊥
NeverFewer (Some a) (Some b) = (a.writes ≤ b.writes) × (a.erases ≤ b.erases)

-- how many writes and erases an operation is
abbrev pub writes_of : Operation → ℕ
writes_of Read = 0
writes_of Write = 1
writes_of Erase = 0

abbrev pub erases_of : Operation → ℕ
erases_of Read = 0
erases_of Write = 0
erases_of Erase = 1

-- where the aim is any place, a call that changed a byte took patience
abbrev pub Costs : Option Region → Option (List ℕ) → Option (List ℕ) → Option ℕ → Option ℕ → Type 0
Costs aim old new p q = aim ≡ Some Any → (new ≡ old) ⊎ Smaller p q

-- the call went through; a flash that was off is as before
pub record Goes (a b : FlashState) : Type 0 where
  pub idle : a.on ≡ false → b ≡ a
  pub geometry : b.geometry ≡ a.geometry
  pub faults : b.faults ≡ a.faults
  pub on : b.on ≡ a.on
  pub troubles : b.troubles ≡ a.troubles
  pub aim : b.aim ≡ a.aim
  pub patience : NoGreater a.patience b.patience
  pub costs : Costs a.aim a.bytes b.bytes a.patience b.patience

-- the call met an off flash; one that was off already is as before
pub record Cuts (a b : FlashState) : Type 0 where
  pub geometry : b.geometry ≡ a.geometry
  pub faults : b.faults ≡ a.faults
  pub off : b.on ≡ false
  pub idle : a.on ≡ false → b ≡ a
  pub troubles : a.on ≡ true → Lowers WentOff a.troubles b.troubles

-- an operation of the call failed
pub record Fails (operation : Operation) (a b : FlashState) : Type 0 where
  pub geometry : b.geometry ≡ a.geometry
  pub rises : Rises operation a.faults b.faults
  pub was_on : a.on ≡ true
  pub on : b.on ≡ true
  pub troubles : Lowers (Failed operation) a.troubles b.troubles

abbrev pub Passes : End → FlashState → FlashState → Type 0
Passes Went a b = Goes a b
Passes WentOff a b = Cuts a b
Passes (Failed operation) a b = Fails operation a b

-- the troubles, the aim and the patience are as before
pub record Undisturbed (a b : FlashState) : Type 0 where
  pub troubles : b.troubles ≡ a.troubles
  pub aim : b.aim ≡ a.aim
  pub patience : b.patience ≡ a.patience

-- the patience after an operation that went through: one less where it is a write or an erase that counts in the aim
abbrev pub Spends : Bool → Option ℕ → Option ℕ → Type 0
Spends costs None None = Unit {0}
Spends costs None (Some b) = ⊥
Spends costs (Some a) None = ⊥
Spends true (Some a) (Some b) = a ≡ b + 1
Spends false (Some a) (Some b) = b ≡ a

-- What an operation of the flash does: by whether it counts in the aim, whether it is then a write or an erase, how many
-- bytes it may read, and what it is.
pub record Acts (counted costs : Bool) (most : ℕ) (operation : Operation) (end : End) (a b : FlashState) : Type 0 where
  pub passes : Passes end a b
  pub awake : a.on ≡ false → end ≡ WentOff
  pub spends : end ≡ Went → Spends costs a.patience b.patience
  pub spared : counted ≡ false → Undisturbed a b
  pub reads : ReadsAtMost most a.bytes_read b.bytes_read
  pub changes : ChangesAtMost (writes_of operation) (erases_of operation) a.changes b.changes

-- a read of at most so many bytes that begins there
abbrev pub Reads : ℕ → ℕ → End → FlashState → FlashState → Type 0
Reads at most end a b = Acts (counts a.geometry a.aim at) false most Read end a b

-- a write of these bytes that begins there
abbrev pub Writes : ℕ → List ℕ → End → FlashState → FlashState → Type 0
Writes at bytes end a b = Acts (counts_write a.geometry a.aim at bytes) (counts_write a.geometry a.aim at bytes) 0 Write end a b

-- an erase of the page that begins there
abbrev pub Erases : ℕ → End → FlashState → FlashState → Type 0
Erases at end a b = Acts (counts a.geometry a.aim at) (counts a.geometry a.aim at) 0 Erase end a b

-- What a call of a layer does to the flash, where its operations begin in these spots and it ends so. Where none of them
-- counts in the aim, it lowers no trouble and takes no patience.
pub record Calls (spots : List (ℕ × ℕ)) (end : End) (a b : FlashState) : Type 0 where
  pub passes : Passes end a b
  pub spared : Spares a.geometry a.aim spots → Undisturbed a b
  pub keeps : Told (Keeps spots) a.bytes b.bytes
  pub reads : NoGreater b.bytes_read a.bytes_read
  pub changes : NeverFewer a.changes b.changes

-- the failures after a call that ended so
abbrev pub FaultsAfter : End → Faults → Faults → Type 0
FaultsAfter Went a b = b ≡ a
FaultsAfter WentOff a b = b ≡ a
FaultsAfter (Failed operation) a b = Rises operation a b

-- whether the flash is on after a call that ended so
abbrev pub on_after : End → Bool → Bool
on_after Went on = on
on_after WentOff on = false
on_after (Failed operation) on = on

-- What `attach` and `create` do beside the bytes and the sizes: only a cut lowers a trouble.
pub record Prepares (end : End) (a b : FlashState) : Type 0 where
  pub awake : a.on ≡ false → end ≡ WentOff
  pub idle : a.on ≡ false → b ≡ a
  pub on : b.on ≡ on_after end a.on
  pub faults : FaultsAfter end a.faults b.faults
  pub cut : end ≡ WentOff → a.on ≡ true → Lowers WentOff a.troubles b.troubles
  pub quiet : (end ≡ WentOff → ⊥) → Undisturbed a b
  pub reads : b.bytes_read ≡ a.bytes_read
  pub changes : b.changes ≡ a.changes

-- How a layer passes faults on, in the words of the promise.
pub record PassesFaultsOn (spots : List (ℕ × ℕ)) (end : End) (a b : FlashState) : Type 0 where
  -- it answers Off exactly where the flash is off at its end
  pub off : a.on ≡ true → (end ≡ WentOff) ↔ (b.on ≡ false)
  -- where a number of failures rose, it answers the fault of that operation; it rises in no other call
  pub faults : FaultsAfter end a.faults b.faults
  -- it raises no trouble, and where it ends by one, it lowered that one
  pub lowers : a.on ≡ true → Lowers end a.troubles b.troubles
  -- an off flash is as before
  pub idle : a.on ≡ false → b ≡ a
  -- where no trouble fell, the aim is the same and the patience no greater
  pub aim : end ≡ Went → b.aim ≡ a.aim
  pub patience : end ≡ Went → NoGreater a.patience b.patience
  -- where the aim is any place and a byte changed, the patience is smaller
  pub any : end ≡ Went → Costs a.aim a.bytes b.bytes a.patience b.patience
  -- where no operation counts in the aim, no trouble fell, and aim and patience are the same
  pub spared : Spares a.geometry a.aim spots → Undisturbed a b

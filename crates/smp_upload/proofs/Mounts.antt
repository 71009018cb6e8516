-- What a mount does, by how it ended.
use Rattle.std.proofs.Common.{◌≡◌, ℕ, ◌<◌, ◌≤◌, Bool, true, false, Option, List, refl, sym, ◌∙◌, ap, subst, arith}
use Rattle.std.specs.Prelude.{IfSome, IsTrue, Result, Ok, Err}
use Rattle.smp_flash.specs.Area.{Told}
use Rattle.smp_flash.specs.Calls.{Calls, Smaller}
use Rattle.smp_flash.specs.Layout.{progress_of, upload_spots}
use Rattle.smp_flash.specs.State.{FlashState, End}
use Rattle.smp_flash.specs.State.End.{Went}
use Rattle.smp_flash.specs.declared.layout.Layout.{Layout}
use Rattle.smp_flash.proofs.Passing.{then_Smaller}
use Rattle.smp_flash.proofs.Telling.{Told-with, Told-map, Told-same, Told-from, IfSome-map}
use Rattle.smp_gate.specs.Newest.{newest_generation, AgesAtMost}
use Rattle.smp_model.specs.declared.device.Side.{Side}
use Rattle.smp_model.specs.Sides.{side_applied, side_settle_steps}
use Rattle.smp_model.specs.Uploads.{is_spoiled}
use Rattle.smp_progress.specs.State.{ProgressState, ProgressSays, CanTake, AimsAtRecord}
use Rattle.smp_upload.specs.Bytes.{SideStands, SideShows, SideReadable}
use Rattle.smp_upload.specs.Counting.{Pays}
use Rattle.smp_upload.specs.Faults.{IsIdle, upload_fault_end}
use Rattle.smp_upload.specs.Mounting.{IsWorn, Mounts}
use Rattle.smp_upload.specs.Moves.{Does, KeepsPending, Moved, Done, mount_spots}
use Rattle.smp_upload.specs.Needs.{MountNeeds}
use Rattle.smp_upload.specs.Rescuing.{NeedsJust}
use Rattle.smp_upload.specs.States.{Says, known_mounted}
use Rattle.smp_upload.specs.declared.states.Lost.{Lost}
use Rattle.smp_upload.specs.declared.states.Mounted.{Mounted}
use Rattle.smp_upload.specs.declared.states.UploadFault.{UploadFault}
use Rattle.smp_upload.specs.declared.states.UploadFault.TheVariants as faults
use Rattle.smp_upload.proofs.Composing.{shows_stands, ages_more, Done-is}
use Rattle.smp_upload.proofs.Looks.{upload_Calls}
use Rattle.smp_upload.proofs.Resolved.{due, none_due, same_ages, same_pending, read_moved, moved_after, done_after}
use Rattle.smp_upload.proofs.Sides.{OneSide}
use Rattle.smp_upload.proofs.Tellings.{same_if, some_told}
use Rattle.smp_upload.proofs.Young.{SaysGeneration, takes_none, generation_is}

-- What is known of bytes before a mount changes them: they stand for a side, and it needs so many records.
pub record Ready (layout : Layout) (p : ProgressState) (n : ℕ) (bytes : List ℕ) : Type 0 where
  pub readable : SideReadable layout bytes
  pub needs : NeedsJust layout n bytes
  pub generation : newest_generation (progress_of layout) bytes ≡ p.bank.generation

-- the records, as a mount ages the bank by them
abbrev pub Needed : Layout → List ℕ → List ℕ → Type 0
Needed layout old new = (n : ℕ) → MountNeeds layout n old → AgesAtMost n (progress_of layout) old new

abbrev pub Fresh : Layout → List ℕ → Type 0
Fresh layout held = (n : ℕ) → MountNeeds layout n held → CanTake (newest_generation (progress_of layout) held) n

abbrev pub Spends : Layout → FlashState → FlashState → List ℕ → Type 0
Spends layout a b held = (n : ℕ) → MountNeeds layout n held → 0 < n → AimsAtRecord layout a.aim → Smaller a.patience b.patience

abbrev pub Unreadable : Layout → List ℕ → Type 0
Unreadable layout held = SideReadable layout held → ⊥

fresh_by : (layout : Layout) (p : ProgressState) (n : ℕ) (u : List ℕ) → CanTake p.bank.generation n → Ready layout p n u → Fresh layout u
fresh_by layout p n u can r m needs = subst (λ (k : ℕ). CanTake k m) (sym r.generation) (subst (CanTake p.bank.generation) (sym (r.needs m needs)) can)

told_fresh : (layout : Layout) (p : ProgressState) (n : ℕ) (x : Option (List ℕ)) → CanTake p.bank.generation n → IfSome x (Ready layout p n) → IfSome x (Fresh layout)
told_fresh layout p n x can ready = IfSome-map (Ready layout p n) (Fresh layout) x (λ u r. fresh_by layout p n u can r) ready

told_needed : (layout : Layout) (p : ProgressState) (n : ℕ) (x y : Option (List ℕ)) → IfSome x (Ready layout p n) → Told (AgesAtMost n (progress_of layout)) x y → Told (Needed layout) x y
told_needed layout p n x y ready ages = Told-with (Ready layout p n) (AgesAtMost n (progress_of layout)) (Needed layout) x y
    (λ u v r f m needs. subst (λ (k : ℕ). AgesAtMost k (progress_of layout) u v) (sym (r.needs m needs)) f) ready ages

told_spends : (layout : Layout) (p : ProgressState) (n : ℕ) (a b : FlashState) (x : Option (List ℕ)) → (0 < n → AimsAtRecord layout a.aim → Smaller a.patience b.patience) → IfSome x (Ready layout p n) → IfSome x (Spends layout a b)
told_spends layout p n a b x f ready = IfSome-map (Ready layout p n) (Spends layout a b) x (λ u r m needs some. f (subst (λ (k : ℕ). 0 < k) (r.needs m needs) some)) ready

told_readable : (layout : Layout) (p : ProgressState) (n : ℕ) (x : Option (List ℕ)) → IfSome x (Ready layout p n) → IfSome x (SideReadable layout)
told_readable layout p n x ready = IfSome-map (Ready layout p n) (SideReadable layout) x (λ u r. r.readable) ready

same_needed : (layout : Layout) (x y : Option (List ℕ)) → y ≡ x → Told (Needed layout) x y
same_needed layout x y same = Told-same (Needed layout) x y (λ u n needs. same_ages layout n u) same

done_moved : (layout : Layout) (a b : FlashState) → Done layout (mount_spots layout) 2 side_settle_steps a b → Moved layout (mount_spots layout) 2 side_settle_steps Went a b
done_moved layout a b d = Done-is layout (mount_spots layout) 2 side_settle_steps a b d

-- It ended with a fault, and nothing changed.
pub same_lost : (layout : Layout) (lost : Lost) (a b : FlashState) → Calls (mount_spots layout) (upload_fault_end lost.fault) a b → b.bytes ≡ a.bytes → lost.state.layout ≡ layout
    → (lost.fault ≡ faults.Unformatted → IfSome a.bytes (Unreadable layout)) → (lost.fault ≡ faults.Worn → IfSome a.bytes (IsWorn layout)) → Mounts layout (Err lost) a b
same_lost layout lost a b calls same is unformatted worn = record {
  moved = read_moved layout (mount_spots layout) 2 side_settle_steps (upload_fault_end lost.fault) a b calls same;
  done = tt;
  says = tt;
  layout_is = tt;
  lost_is = is;
  idle = λ idle. same;
  unformatted = unformatted;
  readable = tt;
  ages = same_needed layout a.bytes b.bytes same;
  worn = worn;
  fresh = tt;
  spends = tt;
}

-- the same where neither comes
pub read_lost : (layout : Layout) (lost : Lost) (a b : FlashState) → Calls (mount_spots layout) (upload_fault_end lost.fault) a b → b.bytes ≡ a.bytes → lost.state.layout ≡ layout
    → (lost.fault ≡ faults.Unformatted → ⊥) → (lost.fault ≡ faults.Worn → ⊥) → Mounts layout (Err lost) a b
read_lost layout lost a b calls same is formatted worn = same_lost layout lost a b calls same is (λ e. absurd (formatted e)) (λ e. absurd (worn e))

worn_by : (layout : Layout) (p : ProgressState) (n : ℕ) (u : List ℕ) → (CanTake p.bank.generation n → ⊥) → Ready layout p n u → IsWorn layout u
worn_by layout p n u none r = (r.readable, λ m needs can. none (subst (CanTake p.bank.generation) (r.needs m needs) (subst (λ (k : ℕ). CanTake k m) r.generation can)))

-- it needs records that can't be put
pub worn_lost : (layout : Layout) (p : ProgressState) (n : ℕ) (lost : Lost) (a b : FlashState) → Calls (mount_spots layout) Went a b → b.bytes ≡ a.bytes → lost.state.layout ≡ layout → lost.fault ≡ faults.Worn
    → (CanTake p.bank.generation n → ⊥) → IfSome a.bytes (Ready layout p n) → Mounts layout (Err lost) a b
worn_lost layout p n lost a b calls same is fault none ready =
    same_lost layout lost a b (subst (λ (end : End). Calls (mount_spots layout) end a b) (sym (ap upload_fault_end fault)) calls) same is (λ e. absurd (cc (sym fault ∙ e)))
    (λ e. IfSome-map (Ready layout p n) (IsWorn layout) a.bytes (λ u r. worn_by layout p n u none r) ready)

-- the bytes stand for no side
pub formless_lost : (layout : Layout) (lost : Lost) (a b : FlashState) → Calls (mount_spots layout) Went a b → b.bytes ≡ a.bytes → lost.state.layout ≡ layout → lost.fault ≡ faults.Unformatted → IfSome a.bytes (Unreadable layout) → Mounts layout (Err lost) a b
formless_lost layout lost a b calls same is fault none =
    same_lost layout lost a b (subst (λ (end : End). Calls (mount_spots layout) end a b) (sym (ap upload_fault_end fault)) calls) same is (λ e. none) (λ e. absurd (cc (sym fault ∙ e)))

-- a fault that is none of the two is none before which nothing changed
not_idle : (f : UploadFault) → (f ≡ faults.Unformatted → ⊥) → (f ≡ faults.Worn → ⊥) → IsIdle f → ⊥
not_idle faults.Unformatted a b is = a refl
not_idle (faults.Fault operation) a b is = is
not_idle faults.Off a b is = is
not_idle faults.Worn a b is = b refl

-- It ended with a fault after some of what it does.
pub changed_lost : (layout : Layout) (p : ProgressState) (n : ℕ) (lost : Lost) (a b : FlashState) → Moved layout (upload_spots layout) n side_settle_steps (upload_fault_end lost.fault) a b → n ≤ 2 → lost.state.layout ≡ layout
    → (lost.fault ≡ faults.Unformatted → ⊥) → (lost.fault ≡ faults.Worn → ⊥) → IfSome a.bytes (Ready layout p n) → Mounts layout (Err lost) a b
changed_lost layout p n lost a b m few is formatted worn ready = record {
  moved = record {
    calls = upload_Calls layout (upload_fault_end lost.fault) a b m.calls;
    moves = m.moves;
    ages = Told-map (AgesAtMost n (progress_of layout)) (AgesAtMost 2 (progress_of layout)) a.bytes b.bytes (λ u v. ages_more layout n 2 u v few) m.ages;
    pending = m.pending;
  };
  done = tt;
  says = tt;
  layout_is = tt;
  lost_is = is;
  idle = λ idle. absurd (not_idle lost.fault formatted worn idle);
  unformatted = λ e. absurd (formatted e);
  readable = tt;
  ages = told_needed layout p n a.bytes b.bytes ready m.ages;
  worn = λ e. absurd (worn e);
  fresh = tt;
  spends = tt;
}

-- It went through.
pub changed_ok : (layout : Layout) (p : ProgressState) (n : ℕ) (mounted : Mounted) (a b : FlashState) → Done layout (upload_spots layout) n side_settle_steps a b → n ≤ 2 → CanTake p.bank.generation n → (0 < n → AimsAtRecord layout a.aim → Smaller a.patience b.patience)
    → IfSome b.bytes (Says (known_mounted mounted)) → (known_mounted mounted).layout ≡ layout → IfSome a.bytes (Ready layout p n) → Mounts layout (Ok mounted) a b
changed_ok layout p n mounted a b d few can spends says is ready =
    let wide : Done layout (mount_spots layout) 2 side_settle_steps a b = record {
      calls = upload_Calls layout Went a b d.calls;
      does = d.does;
      ages = Told-map (AgesAtMost n (progress_of layout)) (AgesAtMost 2 (progress_of layout)) a.bytes b.bytes (λ u v. ages_more layout n 2 u v few) d.ages;
      pending = d.pending;
      pays = d.pays;
    } in
    record {
      moved = done_moved layout a b wide;
      done = wide;
      says = says;
      layout_is = is;
      lost_is = tt;
      idle = tt;
      unformatted = tt;
      readable = told_readable layout p n a.bytes ready;
      ages = told_needed layout p n a.bytes b.bytes ready d.ages;
      worn = tt;
      fresh = told_fresh layout p n a.bytes can ready;
      spends = told_spends layout p n a b a.bytes spends ready;
    }

-- What is known where a mount finds a state that is shown already.
pub record Shown (layout : Layout) (p : ProgressState) (mounted : Mounted) (bytes : List ℕ) : Type 0 where
  pub side : Side
  pub shows : SideShows layout side bytes
  pub says : Says (known_mounted mounted) bytes
  pub needs : NeedsJust layout 0 bytes
  pub record_says : ProgressSays p bytes
  pub place : p.layout ≡ layout

shown_does : OneSide → (layout : Layout) (p : ProgressState) (mounted : Mounted) (bytes : List ℕ) → Shown layout p mounted bytes → Does layout side_settle_steps bytes bytes
shown_does one layout p mounted bytes s = record {
  does = λ side st.
      let e : s.side ≡ side = one layout s.side side bytes (shows_stands layout s.side bytes s.shows) st in
      let shows : SideShows layout side bytes = subst (λ (x : Side). SideShows layout x bytes) e s.shows in
      subst (λ (b : Bool). SideShows layout (side_applied (due b) side) bytes) (sym shows.settled) shows;
}

shown_ready : SaysGeneration → (layout : Layout) (p : ProgressState) (mounted : Mounted) (bytes : List ℕ) → Shown layout p mounted bytes → Ready layout p 0 bytes
shown_ready law layout p mounted bytes s = record {
  readable = record { side = s.side; stands = shows_stands layout s.side bytes s.shows };
  needs = s.needs;
  generation = generation_is law layout p bytes s.place s.record_says;
}

shown_pays : OneSide → (layout : Layout) (p : ProgressState) (mounted : Mounted) (a b : FlashState) → IfSome a.bytes (Shown layout p mounted) → Pays layout side_settle_steps a b
shown_pays one layout p mounted a b shown = record {
  pays = λ side st is.
      some_told (Shown layout p mounted) (SideStands layout side) a.bytes (Smaller a.patience b.patience) shown st (λ u s stands.
      let e : s.side ≡ side = one layout s.side side u (shows_stands layout s.side u s.shows) stands in
      absurd (none_due layout a.aim side (is_spoiled side.upload) (subst (λ (x : Side). is_spoiled x.upload ≡ false) e s.shows.settled) is));
}

nothing_needed : (n : ℕ) → n ≡ 0 → 0 < n → ⊥
nothing_needed n e some = omega arith

told_spends_none : (layout : Layout) (p : ProgressState) (mounted : Mounted) (a b : FlashState) → IfSome a.bytes (Shown layout p mounted) → IfSome a.bytes (Spends layout a b)
told_spends_none layout p mounted a b shown = IfSome-map (Shown layout p mounted) (Spends layout a b) a.bytes (λ u s n needs some. absurd (nothing_needed n (s.needs n needs) some)) shown

pub shown_ok : OneSide → SaysGeneration → (layout : Layout) (p : ProgressState) (mounted : Mounted) (a b : FlashState) → Calls (upload_spots layout) Went a b → b.bytes ≡ a.bytes → (known_mounted mounted).layout ≡ layout → IfSome a.bytes (Shown layout p mounted) → Mounts layout (Ok mounted) a b
shown_ok one law layout p mounted a b calls same is shown =
    let wide : Done layout (mount_spots layout) 2 side_settle_steps a b = record {
      calls = upload_Calls layout Went a b calls;
      does = same_if (Shown layout p mounted) (Does layout side_settle_steps) a.bytes b.bytes (λ u s. shown_does one layout p mounted u s) shown same;
      ages = Told-same (AgesAtMost 2 (progress_of layout)) a.bytes b.bytes (same_ages layout 2) same;
      pending = Told-same (KeepsPending layout) a.bytes b.bytes (same_pending layout) same;
      pays = shown_pays one layout p mounted a b shown;
    } in
    record {
      moved = done_moved layout a b wide;
      done = wide;
      says = subst (λ (o : Option (List ℕ)). IfSome o (Says (known_mounted mounted))) (sym same) (IfSome-map (Shown layout p mounted) (Says (known_mounted mounted)) a.bytes (λ u s. s.says) shown);
      layout_is = is;
      lost_is = tt;
      idle = tt;
      unformatted = tt;
      readable = IfSome-map (Shown layout p mounted) (SideReadable layout) a.bytes (λ u s. record { side = s.side; stands = shows_stands layout s.side u s.shows }) shown;
      ages = same_needed layout a.bytes b.bytes same;
      worn = tt;
      fresh = IfSome-map (Shown layout p mounted) (Fresh layout) a.bytes (λ u s. fresh_by layout p 0 u (takes_none p u s.record_says) (shown_ready law layout p mounted u s)) shown;
      spends = told_spends_none layout p mounted a b shown;
    }

-- A read before.
pub mounts_after : (layout : Layout) (r : Result Mounted Lost) (a b c : FlashState) → Calls (mount_spots layout) Went a b → b.bytes ≡ a.bytes → Mounts layout r b c → Mounts layout r a c
mounts_after layout (Ok mounted) a b c calls same m = record {
  moved = moved_after layout (mount_spots layout) 2 side_settle_steps Went a b c calls same m.moved;
  done = done_after layout (mount_spots layout) 2 side_settle_steps a b c calls same m.done;
  says = m.says;
  layout_is = m.layout_is;
  lost_is = tt;
  idle = tt;
  unformatted = tt;
  readable = subst (λ (o : Option (List ℕ)). IfSome o (SideReadable layout)) same m.readable;
  ages = Told-from (Needed layout) a.bytes b.bytes c.bytes same m.ages;
  worn = tt;
  fresh = subst (λ (o : Option (List ℕ)). IfSome o (Fresh layout)) same m.fresh;
  spends = IfSome-map (Spends layout b c) (Spends layout a c) a.bytes
      (λ u f n needs some aims. then_Smaller a.patience b.patience c.patience calls.passes.patience (f n needs some (subst (AimsAtRecord layout) (sym calls.passes.aim) aims)))
      (subst (λ (o : Option (List ℕ)). IfSome o (Spends layout b c)) same m.spends);
}
mounts_after layout (Err lost) a b c calls same m = record {
  moved = moved_after layout (mount_spots layout) 2 side_settle_steps (upload_fault_end lost.fault) a b c calls same m.moved;
  done = tt;
  says = tt;
  layout_is = tt;
  lost_is = m.lost_is;
  idle = λ idle. m.idle idle ∙ same;
  unformatted = λ e. subst (λ (o : Option (List ℕ)). IfSome o (Unreadable layout)) same (m.unformatted e);
  readable = tt;
  ages = Told-from (Needed layout) a.bytes b.bytes c.bytes same m.ages;
  worn = λ e. subst (λ (o : Option (List ℕ)). IfSome o (IsWorn layout)) same (m.worn e);
  fresh = tt;
  spends = tt;
}

pub no_take : (b : Bool) → b ≡ false → IsTrue b → ⊥
no_take true e is = cc e
no_take false e is = cc is

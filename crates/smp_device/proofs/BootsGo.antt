-- What comes of a boot, by what is armed.
use Rattle.std.proofs.Common.{◌≡◌, ◌⊎◌, inl, inr, ℕ, ◌≤◌, Bool, true, false, if◌then◌else◌, Option, Some, None, List, Result, Ok, Err, refl, sym, ◌∙◌, ap, subst, arith}
use Rattle.std.specs.Prelude.{IfSome, IsSome, IsSomeAnd, is_some}
use Rattle.smp_flash.specs.Area.{Keeps}
use Rattle.smp_flash.specs.Layout.{geometry_of, progress_of, settings_of}
use Rattle.smp_flash.specs.State.{FlashState}
use Rattle.smp_flash.specs.State.End.{WentOff, Failed}
use Rattle.smp_flash.specs.declared.arm.ArmKind.{ArmKind}
use Rattle.smp_flash.specs.declared.arm.ArmKind.TheVariants as arms
use Rattle.smp_flash.specs.declared.flash.Operation.{Operation}
use Rattle.smp_flash.specs.declared.flash.Operation.TheVariants.{Read, Write, Erase}
use Rattle.smp_flash.specs.declared.geometry.Geometry.{Geometry}
use Rattle.smp_flash.specs.declared.layout.Layout.{Layout}
use Rattle.smp_gate.specs.Newest.{AgesAtMost, newest_generation}
use Rattle.smp_model.specs.declared.device.AbstractDevice.{AbstractDevice}
use Rattle.smp_model.specs.declared.device.Side.{Side}
use Rattle.smp_model.specs.declared.device.Upload.{Upload}
use Rattle.smp_model.specs.declared.setting.Setting.{Setting}
use Rattle.smp_model.specs.Steps.{applied, settle_steps, side_at, start}
use Rattle.smp_model.specs.Uploads.{is_spoiled}
use Rattle.smp_progress.specs.State.{CanTake}
use Rattle.smp_settings.specs.Saved.{saved_in}
use Rattle.smp_upload.specs.Bytes.{SideReadable}
use Rattle.smp_upload.specs.Mounting.{IsWorn}
use Rattle.smp_upload.specs.Moves.{KeepsPending, mount_spots}
use Rattle.smp_upload.specs.Needs.{is_unclean, mount_records, upload_records}
use Rattle.smp_upload.specs.declared.states.UploadFault.{UploadFault}
use Rattle.smp_upload.specs.declared.states.UploadFault.TheVariants as faults
use Rattle.smp_upload.proofs.Apartness.{ages_clear}
use Rattle.smp_device.specs.Arming.{Aged, BootComes, IsFresh, IsReady, IsTold, armed_in}
use Rattle.smp_device.specs.Goings as goings
use Rattle.smp_device.specs.Goings.{BootEnd, ended_by}
use Rattle.smp_device.specs.Handling.{DeviceState}
use Rattle.smp_device.specs.Places.{Places, ArePlaces, AtEach, StandsAt, place_at}
use Rattle.smp_device.specs.Starting.{IsDown, IsUp, Restarts, Started, Starts, StartsOn, Unstarted, WornAt, begun_of, start_spots}
use Rattle.smp_device.specs.Up.{Readable, Stands}
use Rattle.smp_device.specs.declared.images.Images.{Images}
use Rattle.smp_device.specs.declared.starting.Begun.{Begun}
use Rattle.smp_device.proofs.Nearer.{shows_stand}
use Rattle.smp_device.proofs.PacketsGo.{Holds, some_at, stands_own, told_at, told_both}
use Rattle.smp_device.proofs.Parting.{apart_second, is_second}
use Rattle.smp_device.proofs.Strikes.{IsStruck, is_told, is_telling, stays_armed, strikes}

-- A mount needs two records at most, so a bank that can take more is not worn.

if_most : (b : Bool) (x y n : ℕ) → x ≤ n → y ≤ n → (if b then x else y) ≤ n
if_most true x y n f g = f
if_most false x y n f g = g

upload_few : (l : Layout) (rescue : Bool) (u : Upload) (bytes : List ℕ) → upload_records l rescue u bytes ≤ 2
upload_few l true u bytes = omega arith
upload_few l false u bytes = if_most (is_spoiled (Some u)) 1 (if is_unclean l u bytes then 2 else 0) 2 (omega arith) (if_most (is_unclean l u bytes) 2 0 2 (omega arith) (omega arith))

few_records : (l : Layout) (rescue : Bool) (o : Option Upload) (bytes : List ℕ) → mount_records l rescue o bytes ≤ 2
few_records l rescue None bytes = omega arith
few_records l rescue (Some u) bytes = upload_few l rescue u bytes

fresh_mounts : (l : Layout) (bytes : List ℕ) → CanTake (newest_generation (progress_of l) bytes) 5 → IsWorn l bytes → ⊥
fresh_mounts l bytes can worn =
    let s = worn.0.stands in
    let n = mount_records l s.rescue worn.0.side.upload bytes in
    let few : n ≤ 2 = few_records l s.rescue worn.0.side.upload bytes in
    worn.1 n (record { rescue = s.rescue; side = worn.0.side; stands = s.stands; needed = refl }) (omega (arith, can, few))

-- mounting image 0 leaves the record of image 1
second_can : (p : Places) (l : Layout) → ArePlaces (geometry_of p.first) p → p.second ≡ Some l → (old new : List ℕ) → Keeps (mount_spots p.first) old new → CanTake (newest_generation (progress_of l) old) 5
    → CanTake (newest_generation (progress_of l) new) 5
second_can p l are at old new k can =
    let h = is_second (geometry_of p.first) p.second l are.second at in
    let apart = apart_second p.first l h.0 are.first.1 h.1 in
    let ages : AgesAtMost 0 (progress_of l) old new = ages_clear l 0 (mount_spots p.first) old new apart.first apart.second k in
    let most = ages.most in
    omega (arith, can, most)

second_worn : (p : Places) (o : Option Layout) (bytes : List ℕ) → p.second ≡ o → ArePlaces (geometry_of p.first) p → IsFresh p bytes
    → IsSomeAnd o (λ l. (middle : List ℕ) × (Keeps (mount_spots p.first) bytes middle × IsWorn l middle)) → ⊥
second_worn p None bytes e are f w = w
second_worn p (Some l) bytes e are f w = fresh_mounts l w.0 (second_can p l are e bytes w.0 w.1.0 (f.progress 1 l e)) w.1.1

not_worn : (p : Places) (bytes : List ℕ) → ArePlaces (geometry_of p.first) p → IsFresh p bytes → WornAt p 0 bytes ⊎ WornAt p 1 bytes → ⊥
not_worn p bytes are f (inl first) = fresh_mounts p.first bytes (f.progress 0 p.first refl) first
not_worn p bytes are f (inr second) = second_worn p p.second bytes refl are f second

never_worn : (p : Places) (x : Option (List ℕ)) (u : List ℕ) → x ≡ Some u → ArePlaces (geometry_of p.first) p → IsFresh p u → IfSome x (λ held. WornAt p 0 held ⊎ WornAt p 1 held) → ⊥
never_worn p None u e are f w = cc e
never_worn p (Some v) u e are f w = let same : v ≡ u = cc e in not_worn p v are (subst (λ (z : List ℕ). IsFresh p z) (sym same) f) w

-- The bytes stand for the device, so they are formatted.

stands_readable : (l : Layout) (s : Option Side) (bytes : List ℕ) → StandsAt (Some l) s bytes → SideReadable l bytes
stands_readable l None bytes f = absurd f
stands_readable l (Some s) bytes f = record { side = s; stands = f }

readable : (p : Places) (t : ℕ) (d : AbstractDevice) (bytes : List ℕ) → Stands p t d bytes → Readable p bytes
readable p t d bytes s = record {
  sides = λ i l at. stands_readable l (side_at i d) bytes (subst (λ (o : Option Layout). StandsAt o (side_at i d) bytes) at (s.images.sides i));
  saved = is_some_of (saved_in p.first bytes) d.saved s.saved;
}
  where
    is_some_of : (o : Option (List Setting)) (saved : List Setting) → o ≡ Some saved → IsSome o
    is_some_of o saved e = subst (λ (x : Option (List Setting)). IsSome x) (sym e) refl

never_unformatted : (p : Places) (t : ℕ) (d : AbstractDevice) (x : Option (List ℕ)) (u : List ℕ) → x ≡ Some u → Stands p t d u → IfSome x (λ held. Readable p held → ⊥) → ⊥
never_unformatted p t d None u e s f = cc e
never_unformatted p t d (Some v) u e s f = let same : v ≡ u = cc e in f (readable p t d v (subst (λ (z : List ℕ). Stands p t d z) (sym same) s))

starts_aged : (p : Places) (r : Result Begun UploadFault) (a b : FlashState) (u v : List ℕ) → a.bytes ≡ Some u → b.bytes ≡ Some v → Starts p r a b → Aged p 2 0 u v
starts_aged p r a b u v e f starts = record {
  progress = λ i l at. told_both (AgesAtMost 2 (progress_of l)) a.bytes b.bytes u v e f (starts.progress_ages i l at);
  settings = told_both (AgesAtMost 0 (settings_of p.first)) a.bytes b.bytes u v e f starts.settings_ages;
}

starts_pending : (p : Places) (r : Result Begun UploadFault) (a b : FlashState) (u v : List ℕ) → a.bytes ≡ Some u → b.bytes ≡ Some v → Starts p r a b → AtEach (λ l. KeepsPending l u v) p
starts_pending p r a b u v e f starts = λ i l at. told_both (KeepsPending l) a.bytes b.bytes u v e f (starts.pending i l at)

-- It went through.

started_stands : (p : Places) (d : AbstractDevice) (begun : Begun) (bytes : List ℕ) → Started p d begun bytes → Stands p (start d).target (start d) bytes
started_stands p d begun bytes s = record {
  images = record { sides = λ i. shows_stand (place_at i p) (side_at i (start d)) bytes (s.shows.sides i); target_is = refl };
  saved = s.shows.saved;
}

up_comes : (new : DeviceState) (d : AbstractDevice) (u : List ℕ) (a b : FlashState) → IsTold new.places u a → Stands new.places d.target d u → IsUp new a b → BootComes d u new (Ok tt) a b
up_comes new d u a b told stands f =
    let p = new.places in
    let begun = begun_of f.images new in
    let at = told_at (StartsOn p (Ok begun)) a.bytes b.bytes u told.bytes_are f.starts.started in
    let s : Started p d begun at.0 = at.2 d stands in
    let st = stays_armed (armed_in a) d (settle_steps d) a b f.starts.calls.passes told.telling (λ region aim bring. f.starts.pays region d aim (some_at (Stands p d.target d) a.bytes u told.bytes_are stands) bring) in
    record {
      booted = record { ended = goings.up; taken = settle_steps d; armed = st.after };
      boots = inl (record { ended = refl; taken = refl; stays = st.stays });
      answer = tt;
      is_up = ap (λ (o : Option Images). is_some o) f.up;
      left = record {
        held = at.0;
        bytes = at.1;
        stands = record {
          stands = started_stands p d begun at.0 s;
          up = subst (λ (o : Option Images). Holds new.settings new.files new.counters (start d) o) (sym f.up)
              (s.shows.target_is, record { running = sym s.running; files = sym f.files; counters = sym f.counters });
        };
        aged = starts_aged p (Ok begun) a b u at.0 told.bytes_are at.1 f.starts;
        pending = starts_pending p (Ok begun) a b u at.0 told.bytes_are at.1 f.starts;
        sizes = f.starts.calls.passes.geometry;
        armed_is = is_told st.after b st.told;
        telling = is_telling st.after b st.told;
        on = f.starts.calls.passes.on ∙ told.on;
      };
    }

-- It was broken off.

down_stands : (p : Places) (d : AbstractDevice) (bytes : List ℕ) (f : Unstarted p d bytes) → Stands p (applied f.taken d).target (applied f.taken d) bytes
down_stands p d bytes f = stands_own p d.target (applied f.taken d) bytes f.stands

fault_end : (operation : Operation) (kind : ArmKind) → IsStruck (Failed operation) kind → goings.fault ≡ ended_by kind
fault_end Read arms.Read is = refl
fault_end Write arms.Fail is = refl
fault_end Erase arms.Fail is = refl
fault_end operation kind is = absurd is

cut_end : (kind : ArmKind) → IsStruck WentOff kind → goings.cut ≡ ended_by kind
cut_end arms.Cut is = refl
cut_end kind is = absurd is

failed_comes : (new : DeviceState) (operation : Operation) (d : AbstractDevice) (u : List ℕ) (a b : FlashState) → IsTold new.places u a → Stands new.places d.target d u → IsDown new.places (faults.Fault operation) new a b
    → BootComes d u new (Err (faults.Fault operation)) a b
failed_comes new operation d u a b told stands f =
    let p = new.places in
    let at = told_at (StartsOn p (Err (faults.Fault operation))) a.bytes b.bytes u told.bytes_are f.starts.started in
    let s : Unstarted p d at.0 = at.2 d stands in
    let struck = strikes (armed_in a) (Failed operation) (start_spots p) a b tt f.starts.calls.passes.troubles f.starts.calls.spared told.telling in
    record {
      booted = record { ended = goings.fault; taken = s.taken; armed = None };
      boots = inr (record { arm = struck.arm; was = struck.was; ended = fault_end operation struck.arm.kind struck.kind; rest = s.rest; split = s.split; gone = refl });
      answer = tt;
      is_up = ap (λ (o : Option Images). is_some o) f.down;
      left = record {
        held = at.0;
        bytes = at.1;
        stands = record { stands = down_stands p d at.0 s; up = subst (λ (o : Option Images). Holds new.settings new.files new.counters (applied s.taken d) o) (sym f.down) tt };
        aged = starts_aged p (Err (faults.Fault operation)) a b u at.0 told.bytes_are at.1 f.starts;
        pending = starts_pending p (Err (faults.Fault operation)) a b u at.0 told.bytes_are at.1 f.starts;
        sizes = f.starts.calls.passes.geometry;
        armed_is = is_told None b struck.gone;
        telling = is_telling None b struck.gone;
        on = f.starts.calls.passes.on;
      };
    }

cut_comes : (new : DeviceState) (d : AbstractDevice) (u : List ℕ) (a b : FlashState) → IsTold new.places u a → Stands new.places d.target d u → IsDown new.places faults.Off new a b → BootComes d u new (Err faults.Off) a b
cut_comes new d u a b told stands f =
    let p = new.places in
    let at = told_at (StartsOn p (Err faults.Off)) a.bytes b.bytes u told.bytes_are f.starts.started in
    let s : Unstarted p d at.0 = at.2 d stands in
    let struck = strikes (armed_in a) WentOff (start_spots p) a b tt (f.starts.calls.passes.troubles told.on) f.starts.calls.spared told.telling in
    record {
      booted = record { ended = goings.cut; taken = s.taken; armed = None };
      boots = inr (record { arm = struck.arm; was = struck.was; ended = cut_end struck.arm.kind struck.kind; rest = s.rest; split = s.split; gone = refl });
      answer = tt;
      is_up = ap (λ (o : Option Images). is_some o) f.down;
      left = record {
        held = at.0;
        bytes = at.1;
        stands = record { stands = down_stands p d at.0 s; up = subst (λ (o : Option Images). Holds new.settings new.files new.counters (applied s.taken d) o) (sym f.down) tt };
        aged = starts_aged p (Err faults.Off) a b u at.0 told.bytes_are at.1 f.starts;
        pending = starts_pending p (Err faults.Off) a b u at.0 told.bytes_are at.1 f.starts;
        sizes = f.starts.calls.passes.geometry;
        armed_is = is_told None b struck.gone;
        telling = is_telling None b struck.gone;
        on = f.starts.calls.passes.off;
      };
    }

own_places : (p : Places) (u : List ℕ) (a : FlashState) → IsTold p u a → ArePlaces (geometry_of p.first) p
own_places p u a t = subst (λ (g : Geometry). ArePlaces g p) (sym t.sizes.are.first.0) t.sizes.are

restart_comes : (new : DeviceState) (result : Result (Unit {0}) UploadFault) (d : AbstractDevice) (u : List ℕ) (a b : FlashState) → IsTold new.places u a → Stands new.places d.target d u → Restarts result new.places new a b → BootComes d u new result a b
restart_comes new (Ok x) d u a b told stands f = up_comes new d u a b told stands f
restart_comes new (Err (faults.Fault operation)) d u a b told stands f = failed_comes new operation d u a b told stands f
restart_comes new (Err faults.Off) d u a b told stands f = cut_comes new d u a b told stands f
restart_comes new (Err faults.Worn) d u a b told stands f = absurd (never_worn new.places a.bytes u told.bytes_are (own_places new.places u a told) told.fresh f.starts.caused)
restart_comes new (Err faults.Unformatted) d u a b told stands f = absurd (never_unformatted new.places d.target d a.bytes u told.bytes_are stands f.starts.caused)

pub boots_go : (old new : DeviceState) (result : Result (Unit {0}) UploadFault) (d : AbstractDevice) (u : List ℕ) (a b : FlashState) → IsReady old d u a → new.places ≡ old.places → Restarts result old.places new a b → BootComes d u new result a b
boots_go old new result d u a b r same f =
    restart_comes new result d u a b (subst (λ (p : Places). IsTold p u a) (sym same) r.told) (subst (λ (p : Places). Stands p d.target d u) (sym same) r.stands.stands) (subst (λ (p : Places). Restarts result p new a b) (sym same) f)

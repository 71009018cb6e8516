-- What comes of a packet, by what is armed.
use Rattle.std.proofs.Common.{◌≡◌, ◌⊎◌, inl, inr, ℕ, Bool, true, false, not, ◌&&◌, Option, Some, None, List, [], ◌∷◌, Result, Ok, Err, refl, sym, ◌∙◌, ap, subst, arith}
use Rattle.std.specs.Prelude.{IfSome, IsSomeAnd, is_some}
use Rattle.smp_flash.specs.Area.{Told}
use Rattle.smp_flash.specs.Calls.{Smaller}
use Rattle.smp_flash.specs.Layout.{geometry_of, progress_of, settings_of}
use Rattle.smp_flash.specs.State.{FlashState}
use Rattle.smp_flash.specs.State.End.{WentOff, Failed}
use Rattle.smp_flash.specs.declared.arm.ArmKind.{ArmKind}
use Rattle.smp_flash.specs.declared.arm.ArmKind.TheVariants as arms
use Rattle.smp_flash.specs.declared.flash.Operation.{Operation}
use Rattle.smp_flash.specs.declared.flash.Operation.TheVariants.{Read, Write, Erase}
use Rattle.smp_flash.specs.declared.geometry.Geometry.{Geometry}
use Rattle.smp_flash.specs.declared.region.Region.{Region}
use Rattle.smp_flash.specs.declared.region.Region.TheVariants as regions
use Rattle.smp_flash.proofs.Passing.{Goes-refl}
use Rattle.smp_gate.specs.Newest.{AgesAtMost}
use Rattle.smp_header.specs.Message.{Message, packet}
use Rattle.smp_model.specs.declared.device.AbstractDevice.{AbstractDevice}
use Rattle.smp_model.specs.declared.device.Counters.{Counters}
use Rattle.smp_model.specs.declared.device.StoredFile.{StoredFile}
use Rattle.smp_model.specs.declared.reply.Reply.{Reply}
use Rattle.smp_model.specs.Counters.{after_drop, after_reply}
use Rattle.smp_model.specs.Does.{does}
use Rattle.smp_model.specs.FlashUse.{uses_images, uses_saved}
use Rattle.smp_model.specs.Handled.{is_request, is_reset}
use Rattle.smp_model.specs.Laws.{EachStep, IsAboutImages, IsNoSave, IsOffSides}
use Rattle.smp_model.specs.Meaning.{meaning}
use Rattle.smp_model.specs.Meant as meant
use Rattle.smp_model.specs.Meant.{Meant}
use Rattle.smp_model.specs.Said as said
use Rattle.smp_model.specs.Said.{Said, said_of, is_error}
use Rattle.smp_model.specs.Steps.{Change, write_setting, delete_setting, load_settings, begin_file, append_file, aim_at, Step, OnSide, Save, Run, apply, applied, changed, counted}
use Rattle.smp_settings.specs.Saved.{SettingsState}
use Rattle.smp_upload.specs.Moves.{KeepsPending}
use Rattle.smp_upload.specs.declared.states.UploadFault.{UploadFault}
use Rattle.smp_upload.specs.declared.states.UploadFault.TheVariants as faults
use Rattle.smp_device.specs.Answers.{WornSomewhere}
use Rattle.smp_device.specs.Arming.{Aged, DeviceStands, DropComes, IsFresh, IsReady, IsTelling, MessageComes, PacketComes, RequestComes, TellsArmed, answered_by, armed_in, sent_to}
use Rattle.smp_device.specs.DeviceLaws.{DeviceLaws}
use Rattle.smp_device.specs.Goings.{Went, Goes, BringNearer, AreCounted, IsToldBy, after_going, durable, group_of}
use Rattle.smp_device.specs.Handling.{AnswersError, AnswersMeaning, DeviceState, Drops, Fell, Finishes, Handles, HandlesBy, HandlesPacket, HandlesUp, Sent, failed_said, flash_group, handled_by, left_by}
use Rattle.smp_device.specs.Places.{Places, ArePlaces, AtEach, places_of}
use Rattle.smp_device.specs.Serving.{CausedBy, IfOfFlash, ReachedFrom, Serves, ServicePays, spots_by}
use Rattle.smp_device.specs.Up.{Up, Stands, Carries, up_of}
use Rattle.smp_device.specs.Uploads.{sizes_of}
use Rattle.smp_device.specs.declared.answering.Down.{Down}
use Rattle.smp_device.specs.declared.answering.Down.TheVariants as downs
use Rattle.smp_device.specs.declared.answering.Handled.{Handled}
use Rattle.smp_device.specs.declared.images.Images.{Images}
use Rattle.smp_device.proofs.Answered.{held_places}
use Rattle.smp_device.proofs.Paying.{run_uncounted}
use Rattle.smp_device.proofs.Reaching.{Use, on_images, on_saved, on_none, use_of, about_images, is_reached, group_same, no_reset, has_images}
use Rattle.smp_device.proofs.ServingQuietly.{stands_same}
use Rattle.smp_device.proofs.Strikes.{IsStruck, is_told, is_telling, stays_armed, strikes}

-- a relation of told bytes, at bytes
pub told_at : (P : List ℕ → List ℕ → Type 0) (x y : Option (List ℕ)) (u : List ℕ) → x ≡ Some u → Told P x y → (v : List ℕ) × (y ≡ Some v) × P u v
told_at P None y u e t = absurd (cc e)
told_at P (Some w) None u e t = absurd t
told_at P (Some w) (Some v) u e t = let same : w ≡ u = cc e in (v, refl, subst (λ (z : List ℕ). P z v) same t)

pub some_at : (P : List ℕ → Type 0) (x : Option (List ℕ)) (u : List ℕ) → x ≡ Some u → P u → IsSomeAnd x P
some_at P x u e f = subst (λ (o : Option (List ℕ)). IsSomeAnd o P) (sym e) f

-- Steps that do not come to the flash bring nothing nearer.

run_durable : (change : Change) (d : AbstractDevice) → durable (changed change d) ≡ durable d
run_durable (write_setting name val) d = refl
run_durable (delete_setting name) d = refl
run_durable load_settings d = refl
run_durable (begin_file name announced part) d = refl
run_durable (append_file name part) d = refl
run_durable (aim_at image) d = refl

runs_durable : (steps : List Step) (d : AbstractDevice) → EachStep IsOffSides steps → EachStep IsNoSave steps → durable (applied steps d) ≡ durable d
runs_durable [] d o n = refl
runs_durable (OnSide image step ∷ steps) d o n = absurd o.0
runs_durable (Save ∷ steps) d o n = absurd n.0
runs_durable (Run change ∷ steps) d o n = runs_durable steps (changed change d) o.1 n.1 ∙ run_durable change d

runs_uncounted : (region : Region) (steps : List Step) (d : AbstractDevice) → EachStep IsOffSides steps → EachStep IsNoSave steps → AreCounted region d steps → ⊥
runs_uncounted region [] d o n c = c
runs_uncounted region (OnSide image step ∷ steps) d o n c = o.0
runs_uncounted region (Save ∷ steps) d o n c = n.0
runs_uncounted region (Run change ∷ steps) d o n (inl one) = run_uncounted region d change one
runs_uncounted region (Run change ∷ steps) d o n (inr more) = runs_uncounted region steps (apply (Run change) d) o.1 n.1 more

not_nearer : (region : Region) (steps : List Step) (d : AbstractDevice) → EachStep IsOffSides steps → EachStep IsNoSave steps → BringNearer region d steps → ⊥
not_nearer regions.Any steps d o n moved = moved (runs_durable steps d o n)
not_nearer region steps d o n c = runs_uncounted region steps d o n c

of_flash_is : (m : Meant) (P : Type 0) → IfOfFlash (Ok m) P → IsAboutImages m ⊎ (uses_saved m ≡ true) → P
of_flash_is meant.image_list P p is = p
of_flash_is (meant.image_set hash confirm) P p is = p
of_flash_is (meant.upload image len off sha part) P p is = p
of_flash_is (meant.erase slot) P p is = p
of_flash_is meant.load P p is = p
of_flash_is meant.save P p is = p
of_flash_is m P p (inl is) = absurd is
of_flash_is m P p (inr is) = absurd (cc is)

nearer : DeviceLaws → (g : Geometry) (m : Meant) (up after : Up) (reply : Reply) (a b : FlashState) → Serves g (Ok m) up after (Ok reply) a b → (d : AbstractDevice) → IsSomeAnd a.bytes (Stands (places_of up.images) up.images.target d) → Carries up d
    → (region : Region) → a.aim ≡ Some region → BringNearer region d (does (sizes_of g) d m).steps → Smaller a.patience b.patience
nearer laws g m up after reply a b serves d stands carries region aim bring = by (use_of (sizes_of g) d m)
  where
    pays : IsAboutImages m ⊎ (uses_saved m ≡ true) → Smaller a.patience b.patience
    pays is = of_flash_is m (ServicePays up (λ e. does (sizes_of g) e m) a b) serves.pays is region d aim stands carries bring

    by : Use (sizes_of g) d m → Smaller a.patience b.patience
    by (on_images e) = pays (inl (about_images (sizes_of g) d m e))
    by (on_saved e) = pays (inr e)
    by (on_none e f) = absurd (not_nearer region (does (sizes_of g) d m).steps d (laws.off_sides (sizes_of g) d m e) (laws.no_save (sizes_of g) d m f) bring)

-- What value and bytes stand for.

pub stands_own : (p : Places) (t : ℕ) (d : AbstractDevice) (bytes : List ℕ) → Stands p t d bytes → Stands p d.target d bytes
stands_own p t d bytes s = subst (λ (n : ℕ). Stands p n d bytes) (sym s.images.target_is) s

-- the counters are in memory alone
stands_counting : (p : Places) (d : AbstractDevice) (c : Counters) (bytes : List ℕ) → Stands p d.target d bytes → Stands p d.target (record d { counters = c }) bytes
stands_counting p d c bytes s = stands_same p d.target d (record d { counters = c }) bytes (record { first = refl; second = refl; saved = refl; target = refl }) s

-- what is held of a device that is up
abbrev pub Holds : SettingsState → List StoredFile → Counters → AbstractDevice → Option Images → Type 0
Holds settings files counters d left = IfSome left (λ images. (d.target ≡ images.target) × Carries (up_of images settings files counters) d)

holds_by : (settings : SettingsState) (files : List StoredFile) (counters : Counters) (d : AbstractDevice) (images : Images) (resets : Bool) → d.target ≡ images.target → Carries (up_of images settings files counters) d
    → Holds settings files counters d (left_by resets images)
holds_by settings files counters d images true t c = tt
holds_by settings files counters d images false t c = (t, c)

carries_counted : (images : Images) (settings : SettingsState) (files : List StoredFile) (before counters : Counters) (d : AbstractDevice) (error : Bool) → counters ≡ after_reply error before → Carries (up_of images settings files before) d
    → Carries (up_of images settings files counters) (record d { counters = after_reply error d.counters })
carries_counted images settings files before counters d error e c = record { running = c.running; files = c.files; counters = ap (after_reply error) c.counters ∙ sym e }

-- Before a packet: value and bytes stand for the device.
pub record Before (up : Up) (d : AbstractDevice) (u : List ℕ) (a : FlashState) : Type 0 where
  pub are : ArePlaces a.geometry (places_of up.images)
  pub on : a.on ≡ true
  pub bytes : a.bytes ≡ Some u
  pub telling : IsTelling a
  pub fresh : IsFresh (places_of up.images) u
  pub stands : Stands (places_of up.images) up.images.target d u
  pub carries : Carries up d

-- What came of it.
pub record Came (g : Geometry) (to : Message) (mm : Result Meant ℕ) (up : Up) (settings : SettingsState) (files : List StoredFile) (counters : Counters) (d : AbstractDevice) (u out : List ℕ) (left : Option Images) (result : Result Handled Down)
    (a b : FlashState) : Type 0 where
  pub went : Went
  pub goes : Goes (sizes_of g) (armed_in a) d mm went
  pub sent : out ≡ sent_to to went.reply
  pub answer : result ≡ answered_by went.reply (is_reset mm)
  pub is_up : is_some left ≡ (is_some went.reply && not (is_reset mm))
  pub held : List ℕ
  pub bytes : b.bytes ≡ Some held
  pub stands : Stands (places_of up.images) (after_going went d).target (after_going went d) held
  pub holds : Holds settings files counters (after_going went d) left
  pub aged : Aged (places_of up.images) 5 1 u held
  pub pending : AtEach (λ l. KeepsPending l u held) (places_of up.images)
  pub sizes : b.geometry ≡ a.geometry
  pub told : TellsArmed went.armed b
  pub on : b.on ≡ is_some went.reply

left_up : (resets : Bool) (images : Images) → is_some (left_by resets images) ≡ (true && not resets)
left_up true images = refl
left_up false images = refl

-- The banks aged.

pub told_both : (P : List ℕ → List ℕ → Type 0) (x y : Option (List ℕ)) (u v : List ℕ) → x ≡ Some u → y ≡ Some v → Told P x y → P u v
told_both P x y u v e f t = subst (λ (o : Option (List ℕ)). Told P (Some u) o) f (subst (λ (o : Option (List ℕ)). Told P o y) e t)

serves_aged : (g : Geometry) (m : Meant) (up after : Up) (fate : Result Reply UploadFault) (a b : FlashState) (u v : List ℕ) → a.bytes ≡ Some u → b.bytes ≡ Some v → Serves g (Ok m) up after fate a b → Aged (places_of up.images) 5 1 u v
serves_aged g m up after fate a b u v e f serves = record {
  progress = λ i l at. told_both (AgesAtMost 5 (progress_of l)) a.bytes b.bytes u v e f (serves.progress_ages i l at);
  settings = told_both (AgesAtMost 1 (settings_of (places_of up.images).first)) a.bytes b.bytes u v e f serves.settings_ages;
}

-- what is pending stays
serves_pending : (g : Geometry) (m : Meant) (up after : Up) (fate : Result Reply UploadFault) (a b : FlashState) (u v : List ℕ) → a.bytes ≡ Some u → b.bytes ≡ Some v → Serves g (Ok m) up after fate a b → AtEach (λ l. KeepsPending l u v) (places_of up.images)
serves_pending g m up after fate a b u v e f serves = λ i l at. told_both (KeepsPending l) a.bytes b.bytes u v e f (serves.pending i l at)

pub same_pending : (p : Places) (u : List ℕ) → AtEach (λ l. KeepsPending l u u) p
same_pending p u = λ i l at. record { kept = λ is. refl; still = λ is. refl }

pub not_aged : (p : Places) (records saves : ℕ) (u : List ℕ) → Aged p records saves u u
not_aged p records saves u = record { progress = λ i l at. record { kept = omega arith; most = omega arith }; settings = record { kept = omega arith; most = omega arith } }

-- It was answered.
ok_came : DeviceLaws → (g : Geometry) (to : Message) (m : Meant) (up : Up) (settings : SettingsState) (files : List StoredFile) (counters : Counters) (images : Images) (reply : Reply) (d : AbstractDevice) (u out : List ℕ) (left : Option Images)
    (result : Result Handled Down) (a b : FlashState) → Before up d u a → Serves g (Ok m) up (up_of images settings files up.counters) (Ok reply) a b → Sent to (said_of reply) (is_reset (Ok m)) up.counters counters images out left result
    → Came g to (Ok m) up settings files counters d u out left result a b
ok_came laws g to m up settings files counters images reply d u out left result a b before serves sent =
    let p = places_of up.images in
    let after = up_of images settings files up.counters in
    let at = told_at (ReachedFrom p (λ e. does (sizes_of g) e m) up after (Ok reply)) a.bytes b.bytes u before.bytes serves.reached in
    let r = at.2 d before.stands before.carries in
    let stood = some_at (Stands p up.images.target d) a.bytes u before.bytes before.stands in
    let st = stays_armed (armed_in a) d r.taken a b serves.calls.passes before.telling
    (λ region aim bring. nearer laws g m up after reply a b serves d stood before.carries region aim (subst (λ (steps : List Step). BringNearer region d steps) r.went.0 bring)) in
    let e = applied r.taken d in
    record {
      went = record { struck = false; taken = r.taken; reply = Some (said_of reply); armed = st.after };
      goes = inl (record { calm = refl; taken = r.went.0; reply = ap (λ (s : Said). Some s) r.went.1; stays = st.stays });
      sent = sent.written;
      answer = sent.answer;
      is_up = ap (λ (o : Option Images). is_some o) sent.left_is ∙ left_up (is_reset (Ok m)) images;
      held = at.0;
      bytes = at.1;
      stands = stands_counting p e (after_reply (is_error (said_of reply)) e.counters) at.0 (stands_own p images.target e at.0 r.stands);
      holds = subst (λ (o : Option Images). Holds settings files counters (counted (said_of reply) e) o) (sym sent.left_is)
          (holds_by settings files counters (counted (said_of reply) e) images (is_reset (Ok m)) r.stands.images.target_is (carries_counted images settings files up.counters counters e (is_error (said_of reply)) sent.counted r.carries));
      aged = serves_aged g m up after (Ok reply) a b u at.0 before.bytes at.1 serves;
      pending = serves_pending g m up after (Ok reply) a b u at.0 before.bytes at.1 serves;
      sizes = serves.calls.passes.geometry;
      told = st.told;
      on = serves.calls.passes.on ∙ before.on;
    }

-- A request that was broken off came to the flash.
tried : (g : Geometry) (m : Meant) (up after : Up) (fault : UploadFault) (d : AbstractDevice) (u : List ℕ) (a b : FlashState) → Before up d u a → Serves g (Ok m) up after (Err fault) a b → uses_images (sizes_of g) d m ≡ false → uses_saved m ≡ false → ⊥
tried g m up after fault d u a b before serves e f =
    let idle = serves.untouched d (has_images (places_of up.images) up.images.target d u before.stands.images) e f in
    absurd (cc idle.answered)

told_by : (operation : Operation) (kind : ArmKind) (m : Meant) → flash_group m ≡ group_of m → IsStruck (Failed operation) kind → IsToldBy kind (group_of m) (Some (failed_said m operation))
told_by Read arms.Read m e is = ap (λ (n : ℕ). Some (said.group_error n 11)) e
told_by Write arms.Fail m e is = inl (ap (λ (n : ℕ). Some (said.group_error n 12)) e)
told_by Erase arms.Fail m e is = inr (ap (λ (n : ℕ). Some (said.group_error n 13)) e)
told_by operation kind m e is = absurd is

-- An operation failed.
failed_came : (g : Geometry) (to : Message) (m : Meant) (up : Up) (settings : SettingsState) (files : List StoredFile) (counters : Counters) (images : Images) (operation : Operation) (d : AbstractDevice) (u out : List ℕ) (left : Option Images)
    (result : Result Handled Down) (a b : FlashState) → Before up d u a → Serves g (Ok m) up (up_of images settings files up.counters) (Err (faults.Fault operation)) a b
    → Sent to (failed_said m operation) false up.counters counters images out left result → Came g to (Ok m) up settings files counters d u out left result a b
failed_came g to m up settings files counters images operation d u out left result a b before serves sent =
    let p = places_of up.images in
    let after = up_of images settings files up.counters in
    let at = told_at (ReachedFrom p (λ e. does (sizes_of g) e m) up after (Err (faults.Fault operation))) a.bytes b.bytes u before.bytes serves.reached in
    let r = at.2 d before.stands before.carries in
    let try = tried g m up after (faults.Fault operation) d u a b before serves in
    let s = strikes (armed_in a) (Failed operation) (spots_by p m) a b tt serves.calls.passes.troubles serves.calls.spared before.telling in
    let e = applied r.taken d in
    let reply = failed_said m operation in
    let still = no_reset (sizes_of g) d m try in
    record {
      went = record { struck = true; taken = r.taken; reply = Some reply; armed = None };
      goes = inr (record {
        strikes = refl;
        arm = s.arm;
        was = s.was;
        request = m;
        means = refl;
        reached = is_reached a.geometry p (sizes_of g) d s.arm.region m before.are s.comes try;
        rest = r.went.0;
        split = r.went.1;
        reply = told_by operation s.arm.kind m (group_same (sizes_of g) d m try) s.kind;
        gone = refl;
      });
      sent = sent.written;
      answer = sent.answer ∙ ap (λ (x : Bool). Ok (handled_by x)) (sym still);
      is_up = ap (λ (o : Option Images). is_some o) sent.left_is ∙ ap (λ (x : Bool). true && not x) (sym still);
      held = at.0;
      bytes = at.1;
      stands = stands_counting p e (after_reply true e.counters) at.0 (stands_own p images.target e at.0 r.stands);
      holds = subst (λ (o : Option Images). Holds settings files counters (counted reply e) o) (sym sent.left_is)
          (holds_by settings files counters (counted reply e) images false r.stands.images.target_is (carries_counted images settings files up.counters counters e true sent.counted r.carries));
      aged = serves_aged g m up after (Err (faults.Fault operation)) a b u at.0 before.bytes at.1 serves;
      pending = serves_pending g m up after (Err (faults.Fault operation)) a b u at.0 before.bytes at.1 serves;
      sizes = serves.calls.passes.geometry;
      told = s.gone;
      on = serves.calls.passes.on;
    }

-- Power was cut.
cut_came : (g : Geometry) (to : Message) (m : Meant) (up : Up) (settings : SettingsState) (files : List StoredFile) (counters : Counters) (images : Images) (d : AbstractDevice) (u out : List ℕ) (left : Option Images)
    (result : Result Handled Down) (a b : FlashState) → Before up d u a → Serves g (Ok m) up (up_of images settings files up.counters) (Err faults.Off) a b
    → Fell downs.Off up.counters counters out left result → Came g to (Ok m) up settings files counters d u out left result a b
cut_came g to m up settings files counters images d u out left result a b before serves f =
    let p = places_of up.images in
    let after = up_of images settings files up.counters in
    let at = told_at (ReachedFrom p (λ e. does (sizes_of g) e m) up after (Err faults.Off)) a.bytes b.bytes u before.bytes serves.reached in
    let r = at.2 d before.stands before.carries in
    let try = tried g m up after faults.Off d u a b before serves in
    let s = strikes (armed_in a) WentOff (spots_by p m) a b tt (serves.calls.passes.troubles before.on) serves.calls.spared before.telling in
    record {
      went = record { struck = true; taken = r.taken; reply = None; armed = None };
      goes = inr (record {
        strikes = refl;
        arm = s.arm;
        was = s.was;
        request = m;
        means = refl;
        reached = is_reached a.geometry p (sizes_of g) d s.arm.region m before.are s.comes try;
        rest = r.went.0;
        split = r.went.1;
        reply = untold s.arm.kind s.kind;
        gone = refl;
      });
      sent = f.nothing;
      answer = f.answer;
      is_up = ap (λ (o : Option Images). is_some o) f.left_is;
      held = at.0;
      bytes = at.1;
      stands = stands_own p images.target (applied r.taken d) at.0 r.stands;
      holds = subst (λ (o : Option Images). Holds settings files counters (applied r.taken d) o) (sym f.left_is) tt;
      aged = serves_aged g m up after (Err faults.Off) a b u at.0 before.bytes at.1 serves;
      pending = serves_pending g m up after (Err faults.Off) a b u at.0 before.bytes at.1 serves;
      sizes = serves.calls.passes.geometry;
      told = s.gone;
      on = serves.calls.passes.off;
    }
  where
    untold : (kind : ArmKind) → IsStruck WentOff kind → IsToldBy kind (group_of m) None
    untold arms.Cut is = refl
    untold kind is = absurd is

-- No bank is worn, and the bytes are told.

not_worn_anywhere : (p : Places) (x : Option (List ℕ)) (u : List ℕ) → x ≡ Some u → IsFresh p u → WornSomewhere p 5 x → ⊥
not_worn_anywhere p None u e f w = cc e
not_worn_anywhere p (Some v) u e f w = let same : v ≡ u = cc e in w.worn ((subst (λ (z : List ℕ). IsFresh p z) (sym same) f).progress w.image w.layout w.place)

not_worn : (p : Places) (m : Meant) (x : Option (List ℕ)) (u : List ℕ) → x ≡ Some u → IsFresh p u → CausedBy p (Ok m) faults.Worn x → ⊥
not_worn p meant.save None u e f w = cc e
not_worn p meant.save (Some v) u e f w = let same : v ≡ u = cc e in let g = (subst (λ (z : List ℕ). IsFresh p z) (sym same) f).settings in omega (arith, g, w)
not_worn p m x u e f w = not_worn_anywhere p x u e f w

request_came : DeviceLaws → (g : Geometry) (to : Message) (m : Meant) (up : Up) (settings : SettingsState) (files : List StoredFile) (counters : Counters) (images : Images) (fate : Result Reply UploadFault) (d : AbstractDevice) (u out : List ℕ) (left : Option Images)
    (result : Result Handled Down) (a b : FlashState) → Before up d u a → Serves g (Ok m) up (up_of images settings files up.counters) fate a b → Finishes to m up.counters counters images fate out left result
    → Came g to (Ok m) up settings files counters d u out left result a b
request_came laws g to m up settings files counters images (Ok reply) d u out left result a b before serves f = ok_came laws g to m up settings files counters images reply d u out left result a b before serves f
request_came laws g to m up settings files counters images (Err (faults.Fault operation)) d u out left result a b before serves f =
    failed_came g to m up settings files counters images operation d u out left result a b before serves f
request_came laws g to m up settings files counters images (Err faults.Off) d u out left result a b before serves f = cut_came g to m up settings files counters images d u out left result a b before serves f
request_came laws g to m up settings files counters images (Err faults.Worn) d u out left result a b before serves f = absurd (not_worn (places_of up.images) m a.bytes u before.bytes before.fresh serves.caused)
request_came laws g to m up settings files counters images (Err faults.Unformatted) d u out left result a b before serves f = absurd (cc (sym before.bytes ∙ serves.caused))

-- The packet means no request.
error_came : (g : Geometry) (to : Message) (number : ℕ) (up : Up) (settings : SettingsState) (files : List StoredFile) (counters : Counters) (d : AbstractDevice) (u out : List ℕ) (left : Option Images)
    (result : Result Handled Down) (a b : FlashState) → Before up d u a → AnswersError to number up settings files counters out left result a b → Came g to (Err number) up settings files counters d u out left result a b
error_came g to number up settings files counters d u out left result a b before f =
    let p = places_of up.images in
    let reply = said.smp_error number in
    let st = stays_armed (armed_in a) d [] a a (Goes-refl a) before.telling (λ region aim bring. absurd (not_nearer region [] d tt tt bring)) in
    let carries : Carries (up_of up.images settings files up.counters) d = record {
      running = before.carries.running ∙ ap (λ (s : SettingsState). s.running) (sym f.settings_kept);
      files = before.carries.files ∙ sym f.files_kept;
      counters = before.carries.counters;
    } in
    record {
      went = record { struck = false; taken = []; reply = Some reply; armed = st.after };
      goes = inl (record { calm = refl; taken = refl; reply = refl; stays = st.stays });
      sent = f.sent.written;
      answer = f.sent.answer;
      is_up = ap (λ (o : Option Images). is_some o) f.sent.left_is;
      held = u;
      bytes = ap (λ (x : FlashState). x.bytes) f.flash ∙ before.bytes;
      stands = stands_counting p d (after_reply true d.counters) u (stands_own p up.images.target d u before.stands);
      holds = subst (λ (o : Option Images). Holds settings files counters (counted reply d) o) (sym f.sent.left_is)
          (before.stands.images.target_is, carries_counted up.images settings files up.counters counters d true f.sent.counted carries);
      aged = not_aged p 5 1 u;
      pending = same_pending p u;
      sizes = ap (λ (x : FlashState). x.geometry) f.flash;
      told = subst (λ (x : FlashState). TellsArmed st.after x) (sym f.flash) st.told;
      on = ap (λ (x : FlashState). x.on) f.flash ∙ before.on;
    }

message_came : DeviceLaws → (g : Geometry) (to : Message) (mm : Result Meant ℕ) (up : Up) (settings : SettingsState) (files : List StoredFile) (counters : Counters) (d : AbstractDevice) (u out : List ℕ) (left : Option Images)
    (result : Result Handled Down) (a b : FlashState) → Before up d u a → AnswersMeaning g to mm up settings files counters out left result a b → Came g to mm up settings files counters d u out left result a b
message_came laws g to (Ok m) up settings files counters d u out left result a b before f = request_came laws g to m up settings files counters f.images f.fate d u out left result a b before f.serves f.finishes
message_came laws g to (Err number) up settings files counters d u out left result a b before f = error_came g to number up settings files counters d u out left result a b before f

-- In words of the device's value.

before_of : (old : DeviceState) (images : Images) (d : AbstractDevice) (u : List ℕ) (a : FlashState) → old.up ≡ Some images → IsReady old d u a → Before (up_of images old.settings old.files old.counters) d u a
before_of old images d u a e r =
    let same : old.places ≡ places_of images = sym (held_places old.places old.up images e r.whole.images) in
    let up : (d.target ≡ images.target) × Carries (up_of images old.settings old.files old.counters) d = subst (λ (o : Option Images). Holds old.settings old.files old.counters d o) e r.stands.up in
    record {
      are = subst (λ (p : Places). ArePlaces a.geometry p) same r.told.sizes.are;
      on = r.told.on;
      bytes = r.told.bytes_are;
      telling = r.told.telling;
      fresh = subst (λ (p : Places). IsFresh p u) same r.told.fresh;
      stands = subst (λ (n : ℕ). Stands (places_of images) n d u) up.0 (subst (λ (p : Places). Stands p d.target d u) same r.stands.stands);
      carries = up.1;
    }

request_comes : (to : Message) (old new : DeviceState) (images : Images) (d : AbstractDevice) (u out : List ℕ) (result : Result Handled Down) (a b : FlashState) → new.places ≡ places_of images → old.places ≡ places_of images
    → Came (geometry_of old.places.first) to (meaning to) (up_of images old.settings old.files old.counters) new.settings new.files new.counters d u out new.up result a b → RequestComes to d u old new out result a b
request_comes to old new images d u out result a b same was c = record {
  went = c.went;
  goes = c.goes;
  sent = c.sent;
  answer = c.answer;
  is_up = c.is_up;
  left = record {
    held = c.held;
    bytes = c.bytes;
    stands = record {
      stands = subst (λ (p : Places). Stands p (after_going c.went d).target (after_going c.went d) c.held) (sym same) c.stands;
      up = c.holds;
    };
    aged = subst (λ (p : Places). Aged p 5 1 u c.held) (sym was) c.aged;
    pending = subst (λ (p : Places). AtEach (λ l. KeepsPending l u c.held) p) (sym was) c.pending;
    sizes = c.sizes;
    armed_is = is_told c.went.armed b c.told;
    telling = is_telling c.went.armed b c.told;
    on = c.on;
  };
}

-- A packet that is none, or no request.

drop_holds : (settings : SettingsState) (files : List StoredFile) (counters : Counters) (d : AbstractDevice) (o : Option Images) → Holds settings files counters d o
    → Holds settings files (after_drop counters) (record d { counters = after_drop d.counters }) o
drop_holds settings files counters d None h = tt
drop_holds settings files counters d (Some images) h = (h.0, record { running = h.1.running; files = h.1.files; counters = ap after_drop h.1.counters })

drop_stands : (old : DeviceState) (d : AbstractDevice) (u : List ℕ) → DeviceStands old d u → DeviceStands (record old { counters = after_drop old.counters }) (record d { counters = after_drop d.counters }) u
drop_stands old d u s = record {
  stands = stands_counting old.places d (after_drop d.counters) u s.stands;
  up = drop_holds old.settings old.files old.counters d old.up s.up;
}

drop_comes : (old new : DeviceState) (d : AbstractDevice) (u out : List ℕ) (result : Result Handled Down) (a b : FlashState) → IsReady old d u a → Drops old new out result a b → DropComes d u old new out result a b
drop_comes old new d u out result a b r f = record {
  nothing = f.nothing;
  answer = f.answer;
  flash = f.flash;
  is_up = ap (λ (s : DeviceState). s.up) f.device;
  left = record {
    held = u;
    bytes = ap (λ (x : FlashState). x.bytes) f.flash ∙ r.told.bytes_are;
    stands = subst (λ (s : DeviceState). DeviceStands s (record d { counters = after_drop d.counters }) u) (sym f.device) (drop_stands old d u r.stands);
    aged = not_aged old.places 0 0 u;
    pending = same_pending old.places u;
    sizes = ap (λ (x : FlashState). x.geometry) f.flash;
    armed_is = ap armed_in f.flash;
    telling = subst IsTelling (sym f.flash) r.told.telling;
    on = ap (λ (x : FlashState). x.on) f.flash ∙ r.told.on;
  };
}

message_comes : DeviceLaws → (request : Bool) (to : Message) (old new : DeviceState) (images : Images) (d : AbstractDevice) (u out : List ℕ) (result : Result Handled Down) (a b : FlashState) → old.up ≡ Some images → IsReady old d u a → new.places ≡ old.places
    → HandlesBy request to images old new out result a b → MessageComes request to d u old new out result a b
message_comes laws true to old new images d u out result a b e r same h =
    request_comes to old new images d u out result a b (same ∙ sym (held_places old.places old.up images e r.whole.images)) (sym (held_places old.places old.up images e r.whole.images))
    (message_came laws (geometry_of old.places.first) to (meaning to) (up_of images old.settings old.files old.counters) new.settings new.files new.counters d u out new.up result a b (before_of old images d u a e r) h)
message_comes laws false to old new images d u out result a b e r same h = drop_comes old new d u out result a b r h

packet_comes : DeviceLaws → (o : Option Message) (old new : DeviceState) (images : Images) (d : AbstractDevice) (u out : List ℕ) (result : Result Handled Down) (a b : FlashState) → old.up ≡ Some images → IsReady old d u a → new.places ≡ old.places
    → HandlesPacket o images old new out result a b → PacketComes o d u old new out result a b
packet_comes laws None old new images d u out result a b e r same h = drop_comes old new d u out result a b r h
packet_comes laws (Some to) old new images d u out result a b e r same h = message_comes laws (is_request to) to old new images d u out result a b e r same h

up_comes : DeviceLaws → (bytes : List ℕ) (o : Option Images) (old new : DeviceState) (d : AbstractDevice) (u out : List ℕ) (result : Result Handled Down) (a b : FlashState) → old.up ≡ o → IsReady old d u a → new.places ≡ old.places
    → HandlesUp o bytes old new out result a b → PacketComes (packet bytes) d u old new out result a b
up_comes laws bytes None old new d u out result a b e r same h = absurd h
up_comes laws bytes (Some images) old new d u out result a b e r same h = packet_comes laws (packet bytes) old new images d u out result a b e r same h

pub packets_go : DeviceLaws → (bytes : List ℕ) (old new : DeviceState) (d : AbstractDevice) (u out : List ℕ) (result : Result Handled Down) (a b : FlashState) → IsReady old d u a → new.places ≡ old.places
    → Handles bytes old new out result a b → PacketComes (packet bytes) d u old new out result a b
packets_go laws bytes old new d u out result a b r same h = up_comes laws bytes old.up old new d u out result a b refl r same h

-- What a packet makes of the device that a flash and a value stand for.
use Rattle.std.proofs.Common.{◌≡◌, ℕ, zero, suc, Bool, true, false, ◌||◌, List, Option, Some, None, Result, Ok, Err, refl, sym, ◌∙◌, ap, subst, arith}
use Rattle.std.specs.Prelude.{IfSome, IsTrue, is_some, if◌then◌else◌}
use Rattle.smp_flash.specs.Area.{Told}
use Rattle.smp_flash.specs.Layout.{geometry_of}
use Rattle.smp_flash.specs.Calls.{Passes, Rose}
use Rattle.smp_flash.specs.declared.flash.Operation.{Operation}
use Rattle.smp_flash.specs.declared.flash.Operation.TheVariants.{Read, Write, Erase}
use Rattle.smp_flash.specs.State.{Faults, FlashState}
use Rattle.smp_flash.specs.State.End.{Went, Failed}
use Rattle.smp_flash.specs.declared.geometry.Geometry.{Geometry}
use Rattle.smp_flash.specs.declared.layout.Layout.{Layout}
use Rattle.smp_header.specs.Message.{Message, packet}
use Rattle.smp_model.specs.declared.device.AbstractDevice.{AbstractDevice}
use Rattle.smp_model.specs.declared.device.Counters.{Counters}
use Rattle.smp_model.specs.declared.device.Side.{Side}
use Rattle.smp_model.specs.declared.device.StoredFile.{StoredFile}
use Rattle.smp_model.specs.declared.reply.Reply.{Reply}
use Rattle.smp_model.specs.Counters.{after_drop, after_reply}
use Rattle.smp_model.specs.Does.{does}
use Rattle.smp_model.specs.FlashUse.{uses_images, uses_saved}
use Rattle.smp_model.specs.Handled.{is_request, is_reset, response_to}
use Rattle.smp_model.specs.Meaning.{meaning}
use Rattle.smp_model.specs.Meant as meant
use Rattle.smp_model.specs.Meant.{Meant}
use Rattle.smp_model.specs.Response.{after}
use Rattle.smp_model.specs.Said as said
use Rattle.smp_model.specs.Said.{Said, is_error, reply_bytes, said_of}
use Rattle.smp_model.specs.Steps.{Step, applied, counted, side_at}
use Rattle.smp_settings.specs.Saved.{SettingsState}
use Rattle.smp_upload.specs.Faults.{upload_fault_end}
use Rattle.smp_upload.specs.declared.states.UploadFault.{UploadFault}
use Rattle.smp_upload.specs.declared.states.UploadFault.TheVariants as faults
use Rattle.smp_device.specs.Arming.{DeviceStands}
use Rattle.smp_device.specs.Handling.{AnswersError, AnswersMeaning, DeviceState, Drops, Finishes, Handles, HandlesBy, HandlesPacket, HandlesUp, Sent, failed_said, handled_by, left_by, worn_said}
use Rattle.smp_device.specs.Mounts.{HasImages}
use Rattle.smp_device.specs.Places.{ImagesStand, Places, StandsAt, place_at, places_of}
use Rattle.smp_device.specs.Serving.{ReachedFrom, Serves}
use Rattle.smp_device.specs.Up.{Carries, IsWhole, Stands, Up, up_of}
use Rattle.smp_device.specs.Uploads.{sizes_of}
use Rattle.smp_device.specs.declared.answering.Down.{Down}
use Rattle.smp_device.specs.declared.answering.Handled.{Handled}
use Rattle.smp_device.specs.declared.answering.Handled.TheVariants as handleds
use Rattle.smp_device.specs.declared.images.Images.{Images}
use Rattle.smp_serve.specs.Devices.{BreaksOff, Came, Comes, Outcome, came_of, failed, is_answered, is_dropped, plainly, resets, worn, RoseBy, count_of}
use Rattle.smp_serve.specs.Sessions.{reply_of}

-- a relation of told bytes, at bytes
pub told_at : (P : List ℕ → List ℕ → Type 0) (x y : Option (List ℕ)) (u : List ℕ) → x ≡ Some u → Told P x y → (v : List ℕ) × (y ≡ Some v) × P u v
told_at P None y u e t = absurd (cc e)
told_at P (Some w) None u e t = absurd t
told_at P (Some w) (Some v) u e t = let same : w ≡ u = cc e in (v, refl, subst (λ (z : List ℕ). P z v) same t)

-- What value and bytes stand for.

pub stands_own : (p : Places) (t : ℕ) (d : AbstractDevice) (bytes : List ℕ) → Stands p t d bytes → Stands p d.target d bytes
stands_own p t d bytes s = subst (λ (n : ℕ). Stands p n d bytes) (sym s.images.target_is) s

side_counting : (image : ℕ) (d : AbstractDevice) (c : Counters) → side_at image (record d { counters = c }) ≡ side_at image d
side_counting zero d c = refl
side_counting (suc zero) d c = refl
side_counting (suc (suc n)) d c = refl

-- the counters are in memory alone
stands_counting : (p : Places) (d : AbstractDevice) (c : Counters) (bytes : List ℕ) → Stands p d.target d bytes → Stands p d.target (record d { counters = c }) bytes
stands_counting p d c bytes s = record {
  images = record {
    sides = λ i. subst (λ (x : Option Side). StandsAt (place_at i p) x bytes) (sym (side_counting i d c)) (s.images.sides i);
    target_is = refl;
  };
  saved = s.saved;
}

-- what is held of a device that is up
abbrev Holds : SettingsState → List StoredFile → Counters → AbstractDevice → Option Images → Type 0
Holds settings files counters d left = IfSome left (λ images. (d.target ≡ images.target) × Carries (up_of images settings files counters) d)

holds_by : (settings : SettingsState) (files : List StoredFile) (counters : Counters) (d : AbstractDevice) (images : Images) (resets : Bool) → d.target ≡ images.target → Carries (up_of images settings files counters) d
    → Holds settings files counters d (left_by resets images)
holds_by settings files counters d images true t c = tt
holds_by settings files counters d images false t c = (t, c)

carries_counted : (images : Images) (settings : SettingsState) (files : List StoredFile) (before counters : Counters) (d : AbstractDevice) (error : Bool) → counters ≡ after_reply error before → Carries (up_of images settings files before) d
    → Carries (up_of images settings files counters) (record d { counters = after_reply error d.counters })
carries_counted images settings files before counters d error e c = record { running = c.running; files = c.files; counters = ap (after_reply error) c.counters ∙ sym e }

-- A device that the bytes stand for has the images that are held.

stands_there : (l : Option Layout) (s : Option Side) (bytes : List ℕ) → StandsAt l s bytes → is_some s ≡ is_some l
stands_there None None bytes f = refl
stands_there None (Some s) bytes f = absurd f
stands_there (Some l) None bytes f = absurd f
stands_there (Some l) (Some s) bytes f = refl

has_images : (p : Places) (t : ℕ) (d : AbstractDevice) (bytes : List ℕ) → ImagesStand p t d bytes → HasImages p t d
has_images p t d bytes s = record { target_is = s.target_is; images = λ i. stands_there (place_at i p) (side_at i d) bytes (s.sides i) }

-- What the flash counted.

pub record RaisedOnce (outcome : Outcome) (a b : Faults) : Type 0 where
  pub reads : RoseBy (count_of Read outcome) a.reads b.reads
  pub writes : RoseBy (count_of Write outcome) a.writes b.writes
  pub erases : RoseBy (count_of Erase outcome) a.erases b.erases

still : (n m : ℕ) → m ≡ n → RoseBy 0 n m
still n m e = record { kept = omega arith; most = omega arith; none = λ _. e }

rises_once : (n m : ℕ) → Rose n m → RoseBy 1 n m
rises_once n m r = let k = r.kept in record { kept = k; most = r.more; none = λ e. absurd (omega arith) }

raised_plainly : (a b : Faults) → b ≡ a → RaisedOnce plainly a b
raised_plainly a b e = record {
  reads = still a.reads b.reads (ap (λ (f : Faults). f.reads) e);
  writes = still a.writes b.writes (ap (λ (f : Faults). f.writes) e);
  erases = still a.erases b.erases (ap (λ (f : Faults). f.erases) e);
}

raised_worn : (a b : FlashState) → Passes Went a b → RaisedOnce worn a.faults b.faults
raised_worn a b p = record {
  reads = still a.faults.reads b.faults.reads (ap (λ (f : Faults). f.reads) p.faults);
  writes = still a.faults.writes b.faults.writes (ap (λ (f : Faults). f.writes) p.faults);
  erases = still a.faults.erases b.faults.erases (ap (λ (f : Faults). f.erases) p.faults);
}

raised_by : (operation : Operation) (a b : FlashState) → Passes (Failed operation) a b → RaisedOnce (failed operation) a.faults b.faults
raised_by Read a b p = record { reads = rises_once a.faults.reads b.faults.reads p.rises.0; writes = still a.faults.writes b.faults.writes p.rises.1; erases = still a.faults.erases b.faults.erases p.rises.2 }
raised_by Write a b p = record { reads = still a.faults.reads b.faults.reads p.rises.0; writes = rises_once a.faults.writes b.faults.writes p.rises.1; erases = still a.faults.erases b.faults.erases p.rises.2 }
raised_by Erase a b p = record { reads = still a.faults.reads b.faults.reads p.rises.0; writes = still a.faults.writes b.faults.writes p.rises.1; erases = rises_once a.faults.erases b.faults.erases p.rises.2 }

-- Before a packet, and after one that was answered.

pub record Before (up : Up) (d : AbstractDevice) (u : List ℕ) (a : FlashState) : Type 0 where
  pub bytes : a.bytes ≡ Some u
  pub stands : Stands (places_of up.images) up.images.target d u
  pub carries : Carries up d

abbrev pub is_resetting : Handled → Bool
is_resetting handleds.Reply = false
is_resetting handleds.ReplyThenReset = true
is_resetting handleds.Dropped = false

pub record CameSo (sizes_of_it : Geometry) (to : Option Message) (p : Places) (settings : SettingsState) (files : List StoredFile) (counters : Counters) (left : Option Images) (d : AbstractDevice) (h : Handled) (out : List ℕ) (a b : FlashState) : Type 0 where
  pub outcome : Outcome
  pub came : Came
  pub comes : Comes (sizes_of sizes_of_it) d to outcome came
  pub reply : reply_of h out ≡ came.reply
  pub resets_so : resets to ≡ is_resetting h
  pub raised : RaisedOnce outcome a.faults b.faults
  pub held : List ℕ
  pub bytes : b.bytes ≡ Some held
  pub stands : Stands p came.device.target came.device held
  pub holds : Holds settings files counters came.device left

reply_so : (resets : Bool) (h : Handled) (out bytes : List ℕ) → handled_by resets ≡ h → out ≡ bytes → reply_of h out ≡ Some bytes
reply_so true h out bytes e w = ap (λ (x : Handled). reply_of x out) (sym e) ∙ ap (λ (l : List ℕ). Some l) w
reply_so false h out bytes e w = ap (λ (x : Handled). reply_of x out) (sym e) ∙ ap (λ (l : List ℕ). Some l) w

resets_by : (resets : Bool) (h : Handled) → handled_by resets ≡ h → resets ≡ is_resetting h
resets_by true h e = ap is_resetting e
resets_by false h e = ap is_resetting e

ok_is : (x h : Handled) (r : Result Handled Down) → r ≡ Ok x → r ≡ Ok h → x ≡ h
ok_is x h r e f = cc

asked_came : (sizes : Geometry) (m : Message) (d : AbstractDevice) → is_request m ≡ true → is_answered (sizes_of sizes) d m ≡ came_of (sizes_of sizes) d (Some m)
asked_came sizes m d e = sym (ap (λ (b : Bool). if b then is_answered (sizes_of sizes) d m else is_dropped d) e)

asked_resets : (m : Message) (b : Bool) → is_request m ≡ true → is_reset (meaning m) ≡ b → resets (Some m) ≡ b
asked_resets m b e f = ap (λ (x : Bool). if x then is_reset (meaning m) else false) e ∙ f

-- it was answered as the device's definition says
ok_came : (g : Geometry) (to : Message) (m : Meant) (up : Up) (settings : SettingsState) (files : List StoredFile) (counters : Counters) (images : Images) (reply : Reply) (d : AbstractDevice) (u out : List ℕ) (left : Option Images)
    (result : Result Handled Down) (h : Handled) (a b : FlashState) → is_request to ≡ true → meaning to ≡ Ok m → result ≡ Ok h → Before up d u a → Serves g (Ok m) up (up_of images settings files up.counters) (Ok reply) a b
    → Sent to (said_of reply) (is_reset (Ok m)) up.counters counters images out left result → CameSo g (Some to) (places_of up.images) settings files counters left d h out a b
ok_came g to m up settings files counters images reply d u out left result h a b asked means is before serves sent =
    let p = places_of up.images in
    let after_up = up_of images settings files up.counters in
    let at = told_at (ReachedFrom p (λ e. does (sizes_of g) e m) up after_up (Ok reply)) a.bytes b.bytes u before.bytes serves.reached in
    let r = at.2 d before.stands before.carries in
    let e = applied r.taken d in
    let named : handled_by (is_reset (Ok m)) ≡ h = ok_is (handled_by (is_reset (Ok m))) h result sent.answer is in
    record {
      outcome = plainly;
      came = record { reply = Some (reply_bytes to (said_of reply)); device = counted (said_of reply) e };
      comes = ap (λ (s : Said). record { reply = Some (reply_bytes to s); device = counted s e }) r.went.1
          ∙ ap (λ (steps : List Step). record { reply = Some (reply_bytes to (does (sizes_of g) d m).reply); device = counted (does (sizes_of g) d m).reply (applied steps d) }) r.went.0
          ∙ ap (λ (x : Result Meant ℕ). record { reply = Some (reply_bytes to (response_to (sizes_of g) d x).reply); device = after (response_to (sizes_of g) d x) d }) (sym means)
          ∙ asked_came g to d asked;
      reply = reply_so (is_reset (Ok m)) h out (reply_bytes to (said_of reply)) named sent.written;
      resets_so = asked_resets to (is_reset (Ok m)) asked (ap is_reset means) ∙ resets_by (is_reset (Ok m)) h named;
      raised = raised_plainly a.faults b.faults serves.calls.passes.faults;
      held = at.0;
      bytes = at.1;
      stands = stands_counting p e (after_reply (is_error (said_of reply)) e.counters) at.0 (stands_own p images.target e at.0 r.stands);
      holds = subst (λ (o : Option Images). Holds settings files counters (counted (said_of reply) e) o) (sym sent.left_is)
          (holds_by settings files counters (counted (said_of reply) e) images (is_reset (Ok m)) r.stands.images.target_is (carries_counted images settings files up.counters counters e (is_error (said_of reply)) sent.counted r.carries));
    }

-- a request that was broken off came to the flash
tried : (g : Geometry) (m : Meant) (up after_up : Up) (fault : UploadFault) (d : AbstractDevice) (u : List ℕ) (a b : FlashState) → Before up d u a → Serves g (Ok m) up after_up (Err fault) a b
    → uses_images (sizes_of g) d m ≡ false → uses_saved m ≡ false → ⊥
tried g m up after_up fault d u a b before serves e f =
    let idle = serves.untouched d (has_images (places_of up.images) up.images.target d u before.stands.images) e f in
    absurd (cc idle.answered)

one_of : (x y : Bool) → (y ≡ false → x ≡ false → ⊥) → IsTrue (x || y)
one_of true y f = refl
one_of false true f = refl
one_of false false f = absurd (f refl refl)

no_reset : (sizes : Geometry) (d : AbstractDevice) (m : Meant) → (uses_images (sizes_of sizes) d m ≡ false → uses_saved m ≡ false → ⊥) → is_reset (Ok m) ≡ false
no_reset sizes d meant.reset f = absurd (f refl refl)
no_reset sizes d m f = refl

-- it was broken off, and this error was answered
broken_came : (g : Geometry) (to : Message) (m : Meant) (up : Up) (settings : SettingsState) (files : List StoredFile) (counters : Counters) (images : Images) (fault : UploadFault) (error : Meant → Said) (outcome : Outcome)
    (d : AbstractDevice) (u out : List ℕ) (left : Option Images) (result : Result Handled Down) (h : Handled) (a b : FlashState)
    → ((c : Came) → BreaksOff (sizes_of g) d (Some to) error c → Comes (sizes_of g) d (Some to) outcome c) → (Passes (upload_fault_end fault) a b → RaisedOnce outcome a.faults b.faults) → is_error (error m) ≡ true
    → is_request to ≡ true → meaning to ≡ Ok m → result ≡ Ok h → Before up d u a → Serves g (Ok m) up (up_of images settings files up.counters) (Err fault) a b
    → Sent to (error m) false up.counters counters images out left result → CameSo g (Some to) (places_of up.images) settings files counters left d h out a b
broken_came g to m up settings files counters images fault error outcome d u out left result h a b comes_so raises wrong asked means is before serves sent =
    let p = places_of up.images in
    let after_up = up_of images settings files up.counters in
    let at = told_at (ReachedFrom p (λ e. does (sizes_of g) e m) up after_up (Err fault)) a.bytes b.bytes u before.bytes serves.reached in
    let r = at.2 d before.stands before.carries in
    let e = applied r.taken d in
    let try = tried g m up after_up fault d u a b before serves in
    let named : handled_by false ≡ h = ok_is (handled_by false) h result sent.answer is in
    let c : Came = record { reply = Some (reply_bytes to (error m)); device = counted (error m) e } in
    record {
      outcome = outcome;
      came = c;
      comes = comes_so c record {
        message = to;
        is = refl;
        asks = asked;
        request = m;
        means = means;
        reaches = one_of (uses_saved m) (uses_images (sizes_of g) d m) try;
        taken = r.taken;
        rest = r.went.0;
        split = r.went.1;
        reply = refl;
        device = refl;
      };
      reply = reply_so false h out (reply_bytes to (error m)) named sent.written;
      resets_so = asked_resets to false asked (ap is_reset means ∙ no_reset g d m try) ∙ resets_by false h named;
      raised = raises serves.calls.passes;
      held = at.0;
      bytes = at.1;
      stands = stands_counting p e (after_reply (is_error (error m)) e.counters) at.0 (stands_own p images.target e at.0 r.stands);
      holds = subst (λ (o : Option Images). Holds settings files counters (counted (error m) e) o) (sym sent.left_is)
          (holds_by settings files counters (counted (error m) e) images false r.stands.images.target_is (carries_counted images settings files up.counters counters e (is_error (error m)) sent.counted r.carries));
    }

request_came : (g : Geometry) (to : Message) (m : Meant) (up : Up) (settings : SettingsState) (files : List StoredFile) (counters : Counters) (images : Images) (fate : Result Reply UploadFault) (d : AbstractDevice) (u out : List ℕ) (left : Option Images)
    (result : Result Handled Down) (h : Handled) (a b : FlashState) → is_request to ≡ true → meaning to ≡ Ok m → result ≡ Ok h → Before up d u a → Serves g (Ok m) up (up_of images settings files up.counters) fate a b
    → Finishes to m up.counters counters images fate out left result → CameSo g (Some to) (places_of up.images) settings files counters left d h out a b
request_came g to m up settings files counters images (Ok reply) d u out left result h a b asked means is before serves f = ok_came g to m up settings files counters images reply d u out left result h a b asked means is before serves f
request_came g to m up settings files counters images (Err (faults.Fault operation)) d u out left result h a b asked means is before serves f =
    broken_came g to m up settings files counters images (faults.Fault operation) (λ k. failed_said k operation) (failed operation) d u out left result h a b (λ c k. k) (raised_by operation a b) refl asked means is before serves f
request_came g to m up settings files counters images (Err faults.Worn) d u out left result h a b asked means is before serves f =
    broken_came g to m up settings files counters images faults.Worn worn_said worn d u out left result h a b (λ c k. k) (raised_worn a b) refl asked means is before serves f
request_came g to m up settings files counters images (Err faults.Off) d u out left result h a b asked means is before serves f = absurd (cc (sym f.answer ∙ is))
request_came g to m up settings files counters images (Err faults.Unformatted) d u out left result h a b asked means is before serves f = absurd (cc (sym f.answer ∙ is))

-- the packet means no request
error_came : (g : Geometry) (to : Message) (number : ℕ) (up : Up) (settings : SettingsState) (files : List StoredFile) (counters : Counters) (d : AbstractDevice) (u out : List ℕ) (left : Option Images)
    (result : Result Handled Down) (h : Handled) (a b : FlashState) → is_request to ≡ true → meaning to ≡ Err number → result ≡ Ok h → Before up d u a
    → AnswersError to number up settings files counters out left result a b → CameSo g (Some to) (places_of up.images) settings files counters left d h out a b
error_came g to number up settings files counters d u out left result h a b asked means is before e =
    let p = places_of up.images in
    let reply = said.smp_error number in
    let named : handled_by false ≡ h = ok_is (handled_by false) h result e.sent.answer is in
    let carries : Carries (up_of up.images settings files up.counters) d = record { running = before.carries.running ∙ ap (λ (s : SettingsState). s.running) (sym e.settings_kept); files = before.carries.files ∙ sym e.files_kept; counters = before.carries.counters } in
    record {
      outcome = plainly;
      came = record { reply = Some (reply_bytes to reply); device = counted reply d };
      comes = ap (λ (x : Result Meant ℕ). record { reply = Some (reply_bytes to (response_to (sizes_of g) d x).reply); device = after (response_to (sizes_of g) d x) d }) (sym means) ∙ asked_came g to d asked;
      reply = reply_so false h out (reply_bytes to reply) named e.sent.written;
      resets_so = asked_resets to false asked (ap is_reset means) ∙ resets_by false h named;
      raised = raised_plainly a.faults b.faults (ap (λ (s : FlashState). s.faults) e.flash);
      held = u;
      bytes = ap (λ (s : FlashState). s.bytes) e.flash ∙ before.bytes;
      stands = stands_counting p d (after_reply true d.counters) u (stands_own p up.images.target d u before.stands);
      holds = subst (λ (o : Option Images). Holds settings files counters (counted reply d) o) (sym e.sent.left_is)
          (holds_by settings files counters (counted reply d) up.images false before.stands.images.target_is (carries_counted up.images settings files up.counters counters d true e.sent.counted carries));
    }

-- By what the packet is.

meaning_came : (g : Geometry) (to : Message) (mm : Result Meant ℕ) (images : Images) (old new : DeviceState) (d : AbstractDevice) (u out : List ℕ) (result : Result Handled Down) (h : Handled) (a b : FlashState)
    → is_request to ≡ true → meaning to ≡ mm → result ≡ Ok h → Before (up_of images old.settings old.files old.counters) d u a
    → AnswersMeaning g to mm (up_of images old.settings old.files old.counters) new.settings new.files new.counters out new.up result a b
    → CameSo g (Some to) (places_of images) new.settings new.files new.counters new.up d h out a b
meaning_came g to (Ok m) images old new d u out result h a b asked means is before answers =
    request_came g to m (up_of images old.settings old.files old.counters) new.settings new.files new.counters answers.images answers.fate d u out new.up result h a b asked means is before answers.serves answers.finishes
meaning_came g to (Err number) images old new d u out result h a b asked means is before answers =
    error_came g to number (up_of images old.settings old.files old.counters) new.settings new.files new.counters d u out new.up result h a b asked means is before answers

drop_came : (g : Geometry) (p : Option Message) (images : Images) (old new : DeviceState) (d : AbstractDevice) (u out : List ℕ) (result : Result Handled Down) (h : Handled) (a b : FlashState)
    → is_dropped d ≡ came_of (sizes_of g) d p → resets p ≡ false → old.up ≡ Some images → result ≡ Ok h → Before (up_of images old.settings old.files old.counters) d u a → Drops old new out result a b
    → CameSo g p (places_of images) new.settings new.files new.counters new.up d h out a b
drop_came g p images old new d u out result h a b drops calm was is before e =
    let named : handleds.Dropped ≡ h = ok_is handleds.Dropped h result e.answer is in
    let t = before.stands.images.target_is in
    let carries : Carries (up_of images new.settings new.files new.counters) (record d { counters = after_drop d.counters }) = record {
      running = before.carries.running ∙ ap (λ (s : DeviceState). s.settings.running) (sym e.device);
      files = before.carries.files ∙ ap (λ (s : DeviceState). s.files) (sym e.device);
      counters = ap after_drop before.carries.counters ∙ ap (λ (s : DeviceState). s.counters) (sym e.device);
    } in
    record {
      outcome = plainly;
      came = is_dropped d;
      comes = drops;
      reply = ap (λ (x : Handled). reply_of x out) (sym named);
      resets_so = calm ∙ ap is_resetting named;
      raised = raised_plainly a.faults b.faults (ap (λ (s : FlashState). s.faults) e.flash);
      held = u;
      bytes = ap (λ (s : FlashState). s.bytes) e.flash ∙ before.bytes;
      stands = stands_counting (places_of images) d (after_drop d.counters) u (stands_own (places_of images) images.target d u before.stands);
      holds = subst (λ (o : Option Images). Holds new.settings new.files new.counters (record d { counters = after_drop d.counters }) o) (sym (ap (λ (s : DeviceState). s.up) e.device ∙ was)) (t, carries);
    }

by_came : (g : Geometry) (asks : Bool) (m : Message) (images : Images) (old new : DeviceState) (d : AbstractDevice) (u out : List ℕ) (result : Result Handled Down) (h : Handled) (a b : FlashState)
    → is_request m ≡ asks → geometry_of old.places.first ≡ g → old.up ≡ Some images → result ≡ Ok h → Before (up_of images old.settings old.files old.counters) d u a → HandlesBy asks m images old new out result a b
    → CameSo g (Some m) (places_of images) new.settings new.files new.counters new.up d h out a b
by_came g true m images old new d u out result h a b asked sizes was is before handles =
    meaning_came g m (meaning m) images old new d u out result h a b asked refl is before
    (subst (λ (x : Geometry). AnswersMeaning x m (meaning m) (up_of images old.settings old.files old.counters) new.settings new.files new.counters out new.up result a b) sizes handles)
by_came g false m images old new d u out result h a b asked sizes was is before handles =
    drop_came g (Some m) images old new d u out result h a b
    (sym (ap (λ (b : Bool). if b then is_answered (sizes_of g) d m else is_dropped d) asked)) (ap (λ (b : Bool). if b then is_reset (meaning m) else false) asked) was is before handles

packet_came : (g : Geometry) (p : Option Message) (images : Images) (old new : DeviceState) (d : AbstractDevice) (u out : List ℕ) (result : Result Handled Down) (h : Handled) (a b : FlashState)
    → geometry_of old.places.first ≡ g → old.up ≡ Some images → result ≡ Ok h → Before (up_of images old.settings old.files old.counters) d u a → HandlesPacket p images old new out result a b
    → CameSo g p (places_of images) new.settings new.files new.counters new.up d h out a b
packet_came g None images old new d u out result h a b sizes was is before handles = drop_came g None images old new d u out result h a b refl refl was is before handles
packet_came g (Some m) images old new d u out result h a b sizes was is before handles = by_came g (is_request m) m images old new d u out result h a b refl sizes was is before handles

-- what value and bytes are of a device that is up
pub before_of : (images : Images) (old : DeviceState) (d : AbstractDevice) (u : List ℕ) (a : FlashState) → old.up ≡ Some images → IsWhole old.places old.up old.settings → a.bytes ≡ Some u → DeviceStands old d u
    → (places_of images ≡ old.places) × Before (up_of images old.settings old.files old.counters) d u a
before_of images old d u a was whole bytes s =
    let places : places_of images ≡ old.places = subst (λ (o : Option Images). IfSome o (λ i. places_of i ≡ old.places)) was whole.images in
    let held : (d.target ≡ images.target) × Carries (up_of images old.settings old.files old.counters) d =
    subst (λ (o : Option Images). IfSome o (λ i. (d.target ≡ i.target) × Carries (up_of i old.settings old.files old.counters) d)) was s.up in (
      places,
      record {
        bytes = bytes;
        stands = subst (λ (p : Places). Stands p images.target d u) (sym places) (subst (λ (n : ℕ). Stands old.places n d u) held.0 s.stands);
        carries = held.1;
      },
    )

up_came : (packet_bytes : List ℕ) (held : Option Images) (old new : DeviceState) (d : AbstractDevice) (u out : List ℕ) (result : Result Handled Down) (h : Handled) (a b : FlashState)
    → old.up ≡ held → IsWhole old.places old.up old.settings → result ≡ Ok h → a.bytes ≡ Some u → DeviceStands old d u → HandlesUp held packet_bytes old new out result a b
    → CameSo (geometry_of old.places.first) (packet packet_bytes) old.places new.settings new.files new.counters new.up d h out a b
up_came packet_bytes None old new d u out result h a b was whole is bytes s handles = absurd handles
up_came packet_bytes (Some images) old new d u out result h a b was whole is bytes s handles =
    let k = before_of images old d u a was whole bytes s in
    subst (λ (p : Places). CameSo (geometry_of old.places.first) (packet packet_bytes) p new.settings new.files new.counters new.up d h out a b) k.0
    (packet_came (geometry_of old.places.first) (packet packet_bytes) images old new d u out result h a b refl was is k.1 handles)

pub packet_comes : (packet_bytes : List ℕ) (old new : DeviceState) (d : AbstractDevice) (u out : List ℕ) (h : Handled) (a b : FlashState)
    → IsWhole old.places old.up old.settings → a.bytes ≡ Some u → DeviceStands old d u → Handles packet_bytes old new out (Ok h) a b
    → CameSo (geometry_of old.places.first) (packet packet_bytes) old.places new.settings new.files new.counters new.up d h out a b
packet_comes packet_bytes old new d u out h a b whole bytes s handles = up_came packet_bytes old.up old new d u out (Ok h) h a b refl whole refl bytes s handles

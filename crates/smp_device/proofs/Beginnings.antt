-- The whole of a start: the settings, the images, and which of them are confirmed.
use Rattle.std.proofs.Common.{◌≡◌, ◌⊎◌, ℕ, zero, suc, ◌++◌, true, Bool, Option, Some, None, List, [], ◌∷◌, Ok, Err, refl, sym, ◌∙◌, ap, subst, arith}
use Rattle.std.specs.Prelude.{IfSome, IsErrOf, length, option_map}
use Rattle.smp_flash.specs.Area.{Told, Keeps, Clear}
use Rattle.smp_flash.specs.Calls.{Calls}
use Rattle.smp_flash.specs.Layout.{geometry_of, image_of, progress_of, settings_of, bank_spots}
use Rattle.smp_flash.specs.State.{FlashState, End, fault_end}
use Rattle.smp_flash.specs.State.End.{Went}
use Rattle.smp_flash.specs.declared.flash.CallFault.{CallFault}
use Rattle.smp_flash.specs.declared.flash.CallFault.TheVariants as called
use Rattle.smp_flash.specs.declared.geometry.Geometry.{Geometry}
use Rattle.smp_flash.specs.declared.layout.Layout.{Layout}
use Rattle.smp_flash.proofs.Passing.{Calls-after, Calls-wider, Covers}
use Rattle.smp_flash.proofs.Telling.{Told-map, Told-same, Told-from, Told-after, IfSome-same}
use Rattle.smp_gate.specs.Fault.{bank_fault_end}
use Rattle.smp_gate.specs.Newest.{AgesAtMost}
use Rattle.smp_gate.specs.declared.fault.BankFault.{BankFault}
use Rattle.smp_gate.specs.declared.fault.BankFault.TheVariants as banks
use Rattle.smp_groups.specs.Counters.{counters_of}
use Rattle.smp_groups.specs.declared.Counts.{Counts}
use Rattle.smp_model.specs.Counters.{no_counters}
use Rattle.smp_model.specs.declared.device.AbstractDevice.{AbstractDevice}
use Rattle.smp_model.specs.declared.device.Side.{Side}
use Rattle.smp_model.specs.declared.device.Upload.{Upload}
use Rattle.smp_model.specs.declared.device.Sizes.{Sizes}
use Rattle.smp_model.specs.declared.setting.Setting.{Setting}
use Rattle.smp_model.specs.Meant as meant
use Rattle.smp_model.specs.Settings.{stored_form}
use Rattle.smp_model.specs.Steps.{Step, applied, settle, settle_steps, side_at, start}
use Rattle.smp_settings.specs.Saved.{SavedStand, SavedReadable, SettingsSay, SettingsState}
use Rattle.smp_upload.specs.Bytes.{SideStands, SideShows, SideReadable, confirmed_in}
use Rattle.smp_upload.specs.Faults.{of_call, upload_fault_end}
use Rattle.smp_upload.specs.Moves.{KeepsPending}
use Rattle.smp_upload.specs.States.{Known, Knows, announced, known_mounted}
use Rattle.smp_upload.specs.declared.states.UploadFault.{UploadFault}
use Rattle.smp_upload.specs.declared.states.UploadFault.TheVariants as faults
use Rattle.smp_upload.proofs.Composing.{shows_stands}
use Rattle.smp_side.specs.Held.{HeldSays, held_layout}
use Rattle.smp_side.specs.declared.held.Held.{Held}
use Rattle.smp_side.specs.declared.held.Held.TheVariants as helds
use Rattle.smp_device.specs.DeviceLaws.{DeviceLaws}
use Rattle.smp_device.specs.Places.{Places, ArePlaces, AtEach, ImagesSay, ImagesStand, StandsAt, place_at, places_of, spots_of}
use Rattle.smp_device.specs.Serving.{of_bank}
use Rattle.smp_device.specs.Settling.{Settle}
use Rattle.smp_device.specs.Showing.{shown_at, shown_held, shown_if, shown_known, shown_side, shown_upload}
use Rattle.smp_device.specs.Starting.{AreConfirmed, AreMounted, IsMounted, OpenFails, SettleTo, StartCaused, Starts, StartsImages, SettingsFirst, StartsOn, Unstarted, WornAt, start_spots}
use Rattle.smp_device.specs.Up.{AllPlaces, Readable, ShowsAt, Stands, UpSays}
use Rattle.smp_device.specs.declared.images.Images.{Images}
use Rattle.smp_device.specs.declared.showing.Confirmed.{Confirmed}
use Rattle.smp_device.specs.declared.starting.Begun.{Begun}
use Rattle.smp_device.specs.declared.showing.Shown.{Shown}
use Rattle.smp_device.proofs.Frames.{settings_clear, settings_age}
use Rattle.smp_device.proofs.Nearer.{settling_pays, start_pays}
use Rattle.smp_device.proofs.Parting.{Covers-left, Covers-right}
use Rattle.smp_device.proofs.ServingImages.{both_say}

bank_covered : (p : Places) → Covers (start_spots p) (bank_spots (settings_of p.first))
bank_covered p = Covers-left (bank_spots (settings_of p.first)) (spots_of p)

images_covered : (p : Places) → Covers (start_spots p) (spots_of p)
images_covered p = Covers-right (bank_spots (settings_of p.first)) (spots_of p)

-- The settings could not be read.

end_of_fault : (fault : BankFault) → bank_fault_end fault ≡ upload_fault_end (of_bank fault)
end_of_fault banks.Unformatted = refl
end_of_fault (banks.Fault operation) = refl
end_of_fault banks.Off = refl
end_of_fault banks.Worn = refl
end_of_fault banks.Full = refl

unread_caused : (p : Places) (fault : BankFault) (x : Option (List ℕ)) → (IsErrOf {T = SettingsState} (Err fault) banks.Unformatted → IfSome x (λ held. SavedReadable p.first held → ⊥)) → (IsErrOf {T = SettingsState} (Err fault) banks.Full → ⊥)
    → (IsErrOf {T = SettingsState} (Err fault) banks.Worn → ⊥) → StartCaused p (Err (of_bank fault)) x
unread_caused p banks.Unformatted None un fu wo = tt
unread_caused p banks.Unformatted (Some u) un fu wo = λ r. un refl r.saved
unread_caused p (banks.Fault operation) x un fu wo = tt
unread_caused p banks.Off x un fu wo = tt
unread_caused p banks.Full x un fu wo = absurd (fu refl)
unread_caused p banks.Worn x un fu wo = absurd (wo refl)

still_told : (p : Places) (fault : UploadFault) (x y : Option (List ℕ)) → y ≡ x → Told (StartsOn p (Err fault)) x y
still_told p fault x y e = Told-same (StartsOn p (Err fault)) x y (λ u d stands. record { taken = []; rest = settle_steps d; split = refl; stands = stands }) e

no_age : (p : Places) (n : ℕ) (x y : Option (List ℕ)) → y ≡ x → AtEach (λ l. Told (AgesAtMost n (progress_of l)) x y) p
no_age p n x y e = λ i l at. Told-same (AgesAtMost n (progress_of l)) x y (λ u. record { kept = omega arith; most = omega arith }) e

no_pending : (p : Places) (x y : Option (List ℕ)) → y ≡ x → AtEach (λ l. Told (KeepsPending l) x y) p
no_pending p x y e = λ i l at. Told-same (KeepsPending l) x y (λ u. record { kept = λ is. refl; still = λ is. refl }) e

no_settings_age : (p : Places) (n : ℕ) (x y : Option (List ℕ)) → y ≡ x → Told (AgesAtMost n (settings_of p.first)) x y
no_settings_age p n x y e = Told-same (AgesAtMost n (settings_of p.first)) x y (λ u. record { kept = omega arith; most = omega arith }) e

kept_first : (p : Places) (x y : Option (List ℕ)) → y ≡ x → SettingsFirst p x y
kept_first p None y e = tt
kept_first p (Some u) y e = λ unread. e

read_at : (p : Places) (settings : SettingsState) (x y : Option (List ℕ)) → settings.layout ≡ p.first → IfSome x (SettingsSay settings) → SettingsFirst p x y
read_at p settings None y l say = tt
read_at p settings (Some u) y l say = λ unread. absurd (unread (subst (λ (k : Layout). SavedReadable k u) l say.readable))

-- they were read
read_first : (p : Places) (settings : SettingsState) (a b c : Option (List ℕ)) → settings.layout ≡ p.first → b ≡ a → IfSome b (SettingsSay settings) → SettingsFirst p a c
read_first p settings a b c l kept say = read_at p settings a c l (IfSome-same (SettingsSay settings) b a (sym kept) say)

pub start_unread : (p : Places) (fault : BankFault) (passed : UploadFault) (a b : FlashState) → passed ≡ of_bank fault → Calls (bank_spots (settings_of p.first)) (bank_fault_end fault) a b → b.bytes ≡ a.bytes
    → (IsErrOf {T = SettingsState} (Err fault) banks.Unformatted → IfSome b.bytes (λ held. SavedReadable p.first held → ⊥)) → (IsErrOf {T = SettingsState} (Err fault) banks.Full → ⊥) → (IsErrOf {T = SettingsState} (Err fault) banks.Worn → ⊥)
    → Starts p (Err passed) a b
start_unread p fault passed a b e calls kept un fu wo = subst (λ (f : UploadFault). Starts p (Err f) a b) (sym e) (record {
  calls = Calls-wider (start_spots p) (bank_spots (settings_of p.first)) (upload_fault_end (of_bank fault)) a b (bank_covered p) (subst (λ (x : End). Calls (bank_spots (settings_of p.first)) x a b) (end_of_fault fault) calls);
  started = still_told p (of_bank fault) a.bytes b.bytes kept;
  settings_first = kept_first p a.bytes b.bytes kept;
  caused = unread_caused p fault a.bytes (λ is. IfSome-same (λ held. SavedReadable p.first held → ⊥) b.bytes a.bytes (sym kept) (un is)) fu wo;
  progress_ages = no_age p 2 a.bytes b.bytes kept;
  settings_ages = no_settings_age p 0 a.bytes b.bytes kept;
  pending = no_pending p a.bytes b.bytes kept;
  pays = tt;
})

-- The images: what was reached, in words of the whole device.

stands_after : DeviceLaws → (g : Geometry) (p : Places) → ArePlaces g p → (d e : AbstractDevice) (t : ℕ) (u v : List ℕ) → Keeps (spots_of p) u v → e.saved ≡ d.saved → SavedStand p.first d.saved u → ImagesStand p t e v → Stands p t e v
stands_after laws g p are d e t u v k s saved images =
    let c = settings_clear g p are in
    record { images = images; saved = laws.saved p.first (spots_of p) u v c.0 c.1 k ∙ saved ∙ sym (ap (λ (x : List Setting). Some x) s) }

-- some first steps of settling leave what is saved
abbrev SavedLaw : Type 0
SavedLaw = (d : AbstractDevice) (taken rest : List Step) → settle_steps d ≡ taken ++ rest → (applied taken d).saved ≡ d.saved

unstarted : DeviceLaws → SavedLaw → (g : Geometry) (p : Places) → ArePlaces g p → (u v : List ℕ) → Keeps (spots_of p) u v → SettleTo p u v → (d : AbstractDevice) → Stands p d.target d u → Unstarted p d v
unstarted laws law g p are u v k f d stands =
    let r = f d stands.images in
    let e = applied r.part.front d in
    let here : ImagesStand p d.target e v = subst (λ (x : AbstractDevice). ImagesStand p d.target x v) r.part.reached r.stands in
    record { taken = r.part.front; rest = r.part.rest; split = r.part.split; stands = stands_after laws g p are d e d.target u v k (law d r.part.front r.part.rest r.part.split) stands.saved here }

unstarted_told : DeviceLaws → SavedLaw → (g : Geometry) (p : Places) → ArePlaces g p → (fault : UploadFault) (x y : Option (List ℕ)) → Told (Keeps (spots_of p)) x y → Told (SettleTo p) x y → Told (StartsOn p (Err fault)) x y
unstarted_told laws law g p are fault None None k f = tt
unstarted_told laws law g p are fault None (Some v) k f = absurd k
unstarted_told laws law g p are fault (Some u) None k f = absurd k
unstarted_told laws law g p are fault (Some u) (Some v) k f = unstarted laws law g p are u v k f

-- An image could not be mounted.

unreadable : (p : Places) (x : Option (List ℕ)) → IfSome x (λ held. AtEach (λ l. SideReadable l held) p → ⊥) → IfSome x (λ held. Readable p held → ⊥)
unreadable p None f = tt
unreadable p (Some u) f = λ r. f r.sides

unmounted_caused : (p : Places) (fault : UploadFault) (x : Option (List ℕ)) → (fault ≡ faults.Unformatted → IfSome x (λ held. AtEach (λ l. SideReadable l held) p → ⊥)) → (fault ≡ faults.Worn → IfSome x (λ held. WornAt p 0 held ⊎ WornAt p 1 held)) → StartCaused p (Err fault) x
unmounted_caused p faults.Unformatted x un wo = unreadable p x (un refl)
unmounted_caused p (faults.Fault operation) x un wo = tt
unmounted_caused p faults.Off x un wo = tt
unmounted_caused p faults.Worn x un wo = wo refl

pub start_unmounted : DeviceLaws → SavedLaw → (g : Geometry) (p : Places) → ArePlaces g p → (settings : SettingsState) → settings.layout ≡ p.first → (fault : UploadFault) (a b c : FlashState) → Calls (bank_spots (settings_of p.first)) Went a b → b.bytes ≡ a.bytes → IfSome b.bytes (SettingsSay settings) → StartsImages p (Err fault) b c
    → Starts p (Err fault) a c
start_unmounted laws law g p are settings layout fault a b c calls kept say m =
    let k = m.calls.keeps in
    record {
      calls = Calls-after (start_spots p) (upload_fault_end fault) a b c (Calls-wider (start_spots p) (bank_spots (settings_of p.first)) Went a b (bank_covered p) calls) (Calls-wider (start_spots p) (spots_of p) (upload_fault_end fault) b c (images_covered p) m.calls);
      started = Told-from (StartsOn p (Err fault)) a.bytes b.bytes c.bytes kept (unstarted_told laws law g p are fault b.bytes c.bytes k m.reaches);
      caused = subst (λ (x : Option (List ℕ)). StartCaused p (Err fault) x) kept (unmounted_caused p fault b.bytes m.unformatted m.worn);
      settings_first = read_first p settings a.bytes b.bytes c.bytes layout kept say;
      progress_ages = λ i l at. Told-from (AgesAtMost 2 (progress_of l)) a.bytes b.bytes c.bytes kept (m.ages i l at);
      settings_ages = Told-from (AgesAtMost 0 (settings_of p.first)) a.bytes b.bytes c.bytes kept (Told-map (Keeps (spots_of p)) (AgesAtMost 0 (settings_of p.first)) b.bytes c.bytes (λ u v. settings_age laws g p are 0 u v) k);
      pending = λ i l at. Told-from (KeepsPending l) a.bytes b.bytes c.bytes kept (m.pending i l at);
      pays = tt;
    }

-- It is not known which images are confirmed.

pub start_unconfirmed : DeviceLaws → SavedLaw → (g : Geometry) (p : Places) → ArePlaces g p → (settings : SettingsState) → settings.layout ≡ p.first → (images : Images) (fault : CallFault) (passed : UploadFault) (a b c d : FlashState) → passed ≡ of_call fault → Calls (bank_spots (settings_of p.first)) Went a b → b.bytes ≡ a.bytes → IfSome b.bytes (SettingsSay settings)
    → StartsImages p (Ok images) b c → Calls (spots_of p) (fault_end fault) c d → d.bytes ≡ c.bytes → Starts p (Err passed) a d
start_unconfirmed laws law g p are settings layout images fault passed a b c d e calls kept say m read same = subst (λ (f : UploadFault). Starts p (Err f) a d) (sym e) (record {
  calls = Calls-after (start_spots p) (upload_fault_end (of_call fault)) a b d (Calls-wider (start_spots p) (bank_spots (settings_of p.first)) Went a b (bank_covered p) calls)
      (Calls-wider (start_spots p) (spots_of p) (upload_fault_end (of_call fault)) b d (images_covered p) (Calls-after (spots_of p) (upload_fault_end (of_call fault)) b c d m.calls (end_as fault read)));
  started = Told-from (StartsOn p (Err (of_call fault))) a.bytes b.bytes d.bytes kept (subst (λ (x : Option (List ℕ)). Told (StartsOn p (Err (of_call fault))) b.bytes x) (sym same) (unstarted_told laws law g p are (of_call fault) b.bytes c.bytes m.calls.keeps m.reaches));
  caused = no_cause fault;
  settings_first = read_first p settings a.bytes b.bytes d.bytes layout kept say;
  progress_ages = λ i l at. Told-from (AgesAtMost 2 (progress_of l)) a.bytes b.bytes d.bytes kept (subst (λ (x : Option (List ℕ)). Told (AgesAtMost 2 (progress_of l)) b.bytes x) (sym same) (m.ages i l at));
  settings_ages = Told-from (AgesAtMost 0 (settings_of p.first)) a.bytes b.bytes d.bytes kept
      (subst (λ (x : Option (List ℕ)). Told (AgesAtMost 0 (settings_of p.first)) b.bytes x) (sym same) (Told-map (Keeps (spots_of p)) (AgesAtMost 0 (settings_of p.first)) b.bytes c.bytes (λ u v. settings_age laws g p are 0 u v) m.calls.keeps));
  pending = λ i l at. Told-from (KeepsPending l) a.bytes b.bytes d.bytes kept (subst (λ (x : Option (List ℕ)). Told (KeepsPending l) b.bytes x) (sym same) (m.pending i l at));
  pays = tt;
})
  where
    end_as : (fault : CallFault) → Calls (spots_of p) (fault_end fault) c d → Calls (spots_of p) (upload_fault_end (of_call fault)) c d
    end_as (called.Fault operation) r = r
    end_as called.Off r = r

    no_cause : (fault : CallFault) → StartCaused p (Err (of_call fault)) a.bytes
    no_cause (called.Fault operation) = tt
    no_cause called.Off = tt

-- It went through.

-- what is mounted is shown
pub record ShownHere (h : Held) (l : Layout) (s : Side) (c : Bool) (bytes : List ℕ) : Type 0 where
  pub shows : SideShows l s bytes
  pub shown : shown_held c h ≡ Some (shown_side s)

upload_shown : (o : Option Upload) → option_map shown_upload (option_map announced o) ≡ option_map (λ u. (u.announcement, length u.accepted)) o
upload_shown None = refl
upload_shown (Some u) = refl

known_shown : (k : Known) (s : Side) (c : Bool) → Knows k s → c ≡ s.confirmed → shown_known c k ≡ shown_side s
known_shown k s c knows e =
    let up : option_map shown_upload k.upload ≡ option_map (λ u. (u.announcement, length u.accepted)) s.upload = ap (λ o. option_map shown_upload o) knows.upload ∙ upload_shown s.upload in
    λ i. record { upload = up i; pending = knows.pending i; confirmed = e i }

shown_here : DeviceLaws → (h : Held) → IsMounted h → (s : Side) (c : Bool) (bytes : List ℕ) → HeldSays h bytes → SideStands (held_layout h) s bytes → c ≡ confirmed_in (held_layout h) bytes → ShownHere h (held_layout h) s c bytes
shown_here laws (helds.Unmounted u) is s c bytes says stands e = absurd is
shown_here laws (helds.Mounted m) is s c bytes says stands e =
    let k = known_mounted m in
    let same : says.side ≡ s = laws.one_side k.layout says.side s bytes (shows_stands k.layout says.side bytes says.shows) stands in
    let shows : SideShows k.layout s bytes = subst (λ (x : Side). SideShows k.layout x bytes) same says.shows in
    record {
      shows = shows;
      shown = ap (λ (x : Shown). Some x) (known_shown k s c (subst (λ (x : Side). Knows k x) same says.knows) (e ∙ sym shows.stands.confirmed));
    }

-- the image of this number
pub record ShownAt (i : ℕ) (images : Images) (c : Confirmed) (d : AbstractDevice) (bytes : List ℕ) : Type 0 where
  pub shows : ShowsAt (place_at i (places_of images)) (side_at i d) bytes
  pub shown : shown_at i images c ≡ option_map shown_side (side_at i d)

second_shown : DeviceLaws → (o : Option Held) (x : Option Side) (c : Bool) (bytes : List ℕ) → IfSome o IsMounted → IfSome o (λ h. HeldSays h bytes) → StandsAt (option_map held_layout o) x bytes → IfSome (option_map held_layout o) (λ l. c ≡ confirmed_in l bytes)
    → ShowsAt (option_map held_layout o) x bytes × (shown_if c o ≡ option_map shown_side x)
second_shown laws None None c bytes is says stands e = (tt, refl)
second_shown laws None (Some s) c bytes is says stands e = absurd stands
second_shown laws (Some h) None c bytes is says stands e = absurd stands
second_shown laws (Some h) (Some s) c bytes is says stands e = let f = shown_here laws h is s c bytes says stands e in (f.shows, f.shown)

each_shown : DeviceLaws → (images : Images) (c : Confirmed) (t : ℕ) (d : AbstractDevice) (bytes : List ℕ) → AreMounted images → ImagesSay images bytes → ImagesStand (places_of images) t d bytes → AreConfirmed (places_of images) c bytes
    → (i : ℕ) → ShownAt i images c d bytes
each_shown laws images c t d bytes are says stands confirmed zero = let f = shown_here laws images.zero are.0 d.first c.zero bytes says.first (stands.sides 0) confirmed.zero in record { shows = f.shows; shown = f.shown }
each_shown laws images c t d bytes are says stands confirmed (suc zero) = let f = second_shown laws images.one d.second c.one bytes are.1 says.second (stands.sides 1) confirmed.one in record { shows = f.0; shown = f.1 }
each_shown laws images c t d bytes are says stands confirmed (suc (suc i)) = record { shows = tt; shown = refl }

-- the start of a device has the sides of the settled one
start_side : (i : ℕ) (d : AbstractDevice) → side_at i (settle d) ≡ side_at i (start d)
start_side zero d = refl
start_side (suc zero) d = refl
start_side (suc (suc i)) d = refl

started : DeviceLaws → SavedLaw → (g : Geometry) (images : Images) (settings : SettingsState) (c : Confirmed) → ArePlaces g (places_of images) → images.target ≡ 0 → AreMounted images → settings.layout ≡ (places_of images).first
    → settings.running ≡ settings.saved → settings.bank.sure ≡ true → settings.form ≡ stored_form settings.saved → (u v : List ℕ) → Keeps (spots_of (places_of images)) u v
    → SettingsSay settings u → ((t : ℕ) → Settle (places_of images) t u v) → ImagesSay images v → AreConfirmed (places_of images) c v
    → StartsOn (places_of images) (Ok (record { images = images; settings = settings; confirmed = c })) u v
started laws law g images settings c are target mounted layout running sure form u v k say settles says confirmed = λ d stands.
    let p = places_of images in
    let saved : SavedStand p.first settings.saved u = subst (λ (l : Layout). SavedStand l settings.saved u) layout (say.saved sure) in
    let same : settings.saved ≡ d.saved = laws.one_saved p.first settings.saved d.saved u saved stands.saved in
    let kept : (settle d).saved ≡ d.saved = law d (settle_steps d) [] (append_none (settle_steps d)) in
    let clear = settings_clear g p are in
    let each : (i : ℕ) → ShownAt i images c (settle d) v = each_shown laws images c d.target (settle d) v mounted says (settles d.target d stands.images) confirmed in
    record {
      shows = record {
        sides = λ i. subst (λ (x : Option Side). ShowsAt (place_at i p) x v) (start_side i d) (each i).shows;
        target_is = sym target;
        saved = laws.saved p.first (spots_of p) u v clear.0 clear.1 k ∙ stands.saved ∙ sym (ap (λ (x : List Setting). Some x) kept);
      };
      running = running ∙ same;
      form = form ∙ ap stored_form (same ∙ sym kept);
      shown = λ i. (each i).shown ∙ ap (λ (o : Option Side). option_map shown_side o) (start_side i d);
    }
  where
    append_none : (xs : List Step) → xs ≡ xs ++ []
    append_none [] = refl
    append_none (x ∷ xs) = ap (λ ys. x ∷ ys) (append_none xs)

started_told : DeviceLaws → SavedLaw → (g : Geometry) (images : Images) (settings : SettingsState) (c : Confirmed) → ArePlaces g (places_of images) → images.target ≡ 0 → AreMounted images → settings.layout ≡ (places_of images).first
    → settings.running ≡ settings.saved → settings.bank.sure ≡ true → settings.form ≡ stored_form settings.saved → (x y : Option (List ℕ)) → Told (Keeps (spots_of (places_of images))) x y
    → IfSome x (SettingsSay settings) → ((t : ℕ) → Told (Settle (places_of images) t) x y) → IfSome y (ImagesSay images) → IfSome y (AreConfirmed (places_of images) c)
    → Told (StartsOn (places_of images) (Ok (record { images = images; settings = settings; confirmed = c }))) x y
started_told laws law g images settings c are target mounted layout running sure form None None k say settles says confirmed = tt
started_told laws law g images settings c are target mounted layout running sure form None (Some v) k say settles says confirmed = absurd k
started_told laws law g images settings c are target mounted layout running sure form (Some u) None k say settles says confirmed = absurd k
started_told laws law g images settings c are target mounted layout running sure form (Some u) (Some v) k say settles says confirmed =
    started laws law g images settings c are target mounted layout running sure form u v k say settles says confirmed

readable_both : (p : Places) (settings : SettingsState) (x : Option (List ℕ)) → settings.layout ≡ p.first → IfSome x (λ held. AtEach (λ l. SideReadable l held) p) → IfSome x (SettingsSay settings) → IfSome x (Readable p)
readable_both p settings None e r s = tt
readable_both p settings (Some u) e r s = record { sides = r; saved = subst (λ (l : Layout). SavedReadable l u) e s.readable }

start_done_at : DeviceLaws → SavedLaw → (g : Geometry) (images : Images) (settings : SettingsState) (confirmed : Confirmed) → ArePlaces g (places_of images) → images.target ≡ 0 → settings.layout ≡ (places_of images).first
    → settings.running ≡ settings.saved → settings.bank.sure ≡ true → settings.form ≡ stored_form settings.saved → (a b c d : FlashState) → Calls (bank_spots (settings_of (places_of images).first)) Went a b → b.bytes ≡ a.bytes → IfSome b.bytes (SettingsSay settings)
    → StartsImages (places_of images) (Ok images) b c → Calls (spots_of (places_of images)) Went c d → d.bytes ≡ c.bytes → IfSome c.bytes (AreConfirmed (places_of images) confirmed)
    → Starts (places_of images) (Ok (record { images = images; settings = settings; confirmed = confirmed })) a d
start_done_at laws law g images settings confirmed are target layout running sure form a b c d calls kept say m read same is =
    let p = places_of images in
    let k = m.calls.keeps in
    let begun : Begun = record { images = images; settings = settings; confirmed = confirmed } in
    let r = Ok begun in
    let through = Calls-after (start_spots p) Went a b d (Calls-wider (start_spots p) (bank_spots (settings_of p.first)) Went a b (bank_covered p) calls)
    (Calls-wider (start_spots p) (spots_of p) Went b d (images_covered p) (Calls-after (spots_of p) Went b c d m.calls read)) in
    let started = Told-from (StartsOn p r) a.bytes b.bytes d.bytes kept (subst (λ (x : Option (List ℕ)). Told (StartsOn p r) b.bytes x) (sym same)
    (started_told laws law g images settings confirmed are target m.mounted layout running sure form b.bytes c.bytes k say (λ t. (m.settles t).does) m.says is)) in
    record {
      calls = through;
      started = started;
      caused = subst (λ (x : Option (List ℕ)). IfSome x (Readable p)) kept (readable_both p settings b.bytes layout m.readable say);
      settings_first = read_first p settings a.bytes b.bytes d.bytes layout kept say;
      progress_ages = λ i l at. Told-from (AgesAtMost 2 (progress_of l)) a.bytes b.bytes d.bytes kept (subst (λ (x : Option (List ℕ)). Told (AgesAtMost 2 (progress_of l)) b.bytes x) (sym same) (m.ages i l at));
      settings_ages = Told-from (AgesAtMost 0 (settings_of p.first)) a.bytes b.bytes d.bytes kept
          (subst (λ (x : Option (List ℕ)). Told (AgesAtMost 0 (settings_of p.first)) b.bytes x) (sym same) (Told-map (Keeps (spots_of p)) (AgesAtMost 0 (settings_of p.first)) b.bytes c.bytes (λ u v. settings_age laws g p are 0 u v) k));
      pending = λ i l at. Told-from (KeepsPending l) a.bytes b.bytes d.bytes kept (subst (λ (x : Option (List ℕ)). Told (KeepsPending l) b.bytes x) (sym same) (m.pending i l at));
      pays = start_pays laws p begun a d through.passes started (settling_pays p a b c d calls.passes kept (λ t. (m.settles t).pays) read.passes);
    }

-- of these places
pub start_done : DeviceLaws → SavedLaw → (g : Geometry) (p : Places) (images : Images) (settings : SettingsState) (confirmed : Confirmed) → places_of images ≡ p → ArePlaces g p → images.target ≡ 0 → settings.layout ≡ p.first
    → settings.running ≡ settings.saved → settings.bank.sure ≡ true → settings.form ≡ stored_form settings.saved → (a b c d : FlashState) → Calls (bank_spots (settings_of p.first)) Went a b → b.bytes ≡ a.bytes → IfSome b.bytes (SettingsSay settings)
    → StartsImages p (Ok images) b c → Calls (spots_of p) Went c d → d.bytes ≡ c.bytes → IfSome c.bytes (AreConfirmed p confirmed)
    → Starts p (Ok (record { images = images; settings = settings; confirmed = confirmed })) a d
start_done laws law g p images settings confirmed e = subst Family e (start_done_at laws law g images settings confirmed)
  where
    Family : Places → Type 0
    Family q = ArePlaces g q → images.target ≡ 0 → settings.layout ≡ q.first
        → settings.running ≡ settings.saved → settings.bank.sure ≡ true → settings.form ≡ stored_form settings.saved → (a b c d : FlashState) → Calls (bank_spots (settings_of q.first)) Went a b → b.bytes ≡ a.bytes → IfSome b.bytes (SettingsSay settings)
        → StartsImages q (Ok images) b c → Calls (spots_of q) Went c d → d.bytes ≡ c.bytes → IfSome c.bytes (AreConfirmed q confirmed)
        → Starts q (Ok (record { images = images; settings = settings; confirmed = confirmed })) a d

-- what is held is said
settings_on : DeviceLaws → (g : Geometry) (p : Places) → ArePlaces g p → (settings : SettingsState) → settings.layout ≡ p.first → (x y : Option (List ℕ)) → IfSome x (SettingsSay settings) → Told (Keeps (spots_of p)) x y → IfSome y (SettingsSay settings)
settings_on laws g p are settings e x y say k =
    let c = settings_clear g p are in
    Told-after (SettingsSay settings) (Keeps (spots_of p)) (SettingsSay settings) x y
    (λ u v s kept. laws.settings settings (spots_of p) u v (subst (λ (l : Layout). Clear (spots_of p) (settings_of l).first.at 4096) (sym e) c.0) (subst (λ (l : Layout). Clear (spots_of p) (settings_of l).second.at 4096) (sym e) c.1) kept s) say k

pub start_says : DeviceLaws → (g : Geometry) (p : Places) → ArePlaces g p → (images : Images) (settings : SettingsState) → settings.layout ≡ p.first → (b c d : FlashState) → IfSome b.bytes (SettingsSay settings) → StartsImages p (Ok images) b c → d.bytes ≡ c.bytes
    → IfSome d.bytes (UpSays images settings)
start_says laws g p are images settings e b c d say m same =
    IfSome-same (UpSays images settings) c.bytes d.bytes same (both_say images settings c.bytes m.says (settings_on laws g p are settings e b.bytes c.bytes say m.calls.keeps))

-- settling leaves what is saved
pub saved_law : DeviceLaws → SavedLaw
saved_law laws d taken rest split =
    let sizes : Sizes = record { unit = 1; page = 512; slot = 4096 } in
    (laws.images sizes d (applied taken d) meant.image_list tt (record { front = taken; rest = rest ++ []; split = ap (λ s. s ++ []) split ∙ append_assoc taken rest; reached = refl })).saved
  where
    append_assoc : (xs ys : List Step) → (xs ++ ys) ++ [] ≡ xs ++ (ys ++ [])
    append_assoc [] ys = refl
    append_assoc (x ∷ xs) ys = ap (λ zs. x ∷ zs) (append_assoc xs ys)

-- The places that a flash of these sizes has.

pub places_all : (g : Geometry) (first : Layout) (second : Option Layout) → geometry_of first ≡ g → image_of first ≡ 0 → (second ≡ None → g.images ≡ 1) → ((l : Layout) → second ≡ Some l → geometry_of l ≡ g) → ((l : Layout) → second ≡ Some l → image_of l ≡ 1)
    → AllPlaces (geometry_of first) (record { first = first; second = second })
places_all g first second e i none f h = record {
  are = record { first = (refl, i); second = each second refl };
  alone = λ is. ap (λ (x : Geometry). x.images) e ∙ none is;
}
  where
    each : (o : Option Layout) → second ≡ o → IfSome o (λ l. (geometry_of l ≡ geometry_of first) × (image_of l ≡ 1))
    each None is = tt
    each (Some l) is = (f l is ∙ sym e, h l is)

-- for the sizes themselves
pub places_of_sizes : (g h : Geometry) (p : Places) → h ≡ g → AllPlaces h p → AllPlaces g p
places_of_sizes g h p e f = subst (λ (x : Geometry). AllPlaces x p) e f

-- a start that failed, as `open` tells it
pub open_fails : (p : Places) (fault : UploadFault) (o : Option UploadFault) (a b : FlashState) → o ≡ Some fault → AllPlaces a.geometry p → Starts p (Err fault) a b → OpenFails o a b
open_fails p fault o a b e all starts = subst (λ (x : Option UploadFault). OpenFails x a b) (sym e) (p, (all, starts))

-- counts that were made anew
pub counts_none : (c : Counts) → (c.handled ≡ 0) × ((c.dropped ≡ 0) × (c.errors ≡ 0)) → counters_of c ≡ no_counters
counts_none c e = λ i. record { handled = e.0 i; dropped = e.1.0 i; errors = e.1.1 i }

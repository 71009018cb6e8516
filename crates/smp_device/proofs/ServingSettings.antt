-- Requests about the saved settings, served.
use Rattle.std.proofs.Common.{◌≡◌, ◌⊎◌, inl, inr, ℕ, zero, suc, ◌-◌, ◌^◌, true, Option, Some, None, List, [], ◌∷◌, Result, Ok, Err, refl, sym, ◌∙◌, ap, subst, arith}
use Rattle.std.specs.Prelude.{IfSome, IsSomeAnd, OnOk, OnErr, IsErrOf, option_map}
use Rattle.smp_flash.specs.Area.{Told, Keeps}
use Rattle.smp_flash.specs.Calls.{Calls, Smaller}
use Rattle.smp_flash.specs.Layout.{settings_of, bank_spots}
use Rattle.smp_flash.specs.State.{FlashState, End}
use Rattle.smp_flash.specs.declared.geometry.Geometry.{Geometry}
use Rattle.smp_flash.specs.declared.layout.Layout.{Layout}
use Rattle.smp_flash.specs.declared.region.Region.{Region}
use Rattle.smp_flash.specs.declared.region.Region.TheVariants as regions
use Rattle.smp_flash.proofs.Telling.{Told-after, Told-same}
use Rattle.smp_gate.specs.Fault.{bank_end}
use Rattle.smp_gate.specs.Newest.{AgesAtMost, newest_generation}
use Rattle.smp_gate.specs.declared.fault.BankFault.{BankFault}
use Rattle.smp_gate.specs.declared.fault.BankFault.TheVariants as banks
use Rattle.smp_model.specs.declared.device.AbstractDevice.{AbstractDevice}
use Rattle.smp_model.specs.declared.device.Side.{Side}
use Rattle.smp_model.specs.declared.device.Sizes.{Sizes}
use Rattle.smp_model.specs.declared.reply.Reply.{Reply}
use Rattle.smp_model.specs.declared.reply.Reply.TheVariants as replied
use Rattle.smp_model.specs.declared.setting.Setting.{Setting}
use Rattle.smp_model.specs.FlashUse.{uses_saved}
use Rattle.smp_model.specs.Handled.{response_to}
use Rattle.smp_model.specs.Meant as meant
use Rattle.smp_model.specs.Meant.{Meant}
use Rattle.smp_model.specs.Response.{Response}
use Rattle.smp_model.specs.Steps.{Save, Run, load_settings, applied, side_at}
use Rattle.smp_settings.specs.Saved.{AimsAtSettings, SavedAlready, SavedStand, SavedOrThis, SettingsSay, SettingsState, IsWorn, saved_in}
use Rattle.smp_upload.specs.Bytes.{Apart}
use Rattle.smp_upload.specs.States.{known_mounted}
use Rattle.smp_upload.specs.declared.states.UploadFault.{UploadFault}
use Rattle.smp_side.specs.Held.{HeldSays, held_layout, result_end}
use Rattle.smp_side.specs.declared.held.Held.{Held}
use Rattle.smp_side.specs.declared.held.Held.TheVariants as helds
use Rattle.smp_device.specs.DeviceLaws.{DeviceLaws}
use Rattle.smp_device.specs.Goings.{IsCounted}
use Rattle.smp_device.specs.Places.{Places, ArePlaces, ImagesSay, ImagesStand, StandsAt, place_at, places_of}
use Rattle.smp_device.specs.Serving.{ErasesBy, Idles, IfOfFlash, MountsBy, ReachedFrom, ResultCausedBy, SavesUnworn, Serves, ServicePays, spots_for, bank_reply, of_bank}
use Rattle.smp_device.specs.Up.{Up, Stands, UpSays, IsFor, Carries}
use Rattle.smp_device.specs.Uploads.{sizes_of}
use Rattle.smp_device.specs.declared.images.Images.{Images}
use Rattle.smp_device.specs.declared.images.Replied.{Replied}
use Rattle.smp_device.proofs.Frames.{side_apart, progress_age, pending_kept}
use Rattle.smp_device.proofs.Nearer.{CountedPay, if_of_flash, nearer_pays}
use Rattle.smp_device.proofs.Paying.{run_uncounted}
use Rattle.smp_device.proofs.ServingImages.{both_say}

-- The images are left as they are.

held_kept : DeviceLaws → (h : Held) (spots : List (ℕ × ℕ)) (old new : List ℕ) → Apart (held_layout h) spots → Keeps spots old new → HeldSays h old → HeldSays h new
held_kept laws (helds.Unmounted u) spots old new apart k s = record { side = s.side; stands = laws.stand u.layout s.side spots old new apart k s.stands }
held_kept laws (helds.Mounted m) spots old new apart k s = laws.say (known_mounted m) spots old new apart k s

second_kept : DeviceLaws → (o : Option Held) (spots : List (ℕ × ℕ)) (old new : List ℕ) → ((l : Layout) → option_map held_layout o ≡ Some l → Apart l spots) → Keeps spots old new
    → IfSome o (λ h. HeldSays h old) → IfSome o (λ h. HeldSays h new)
second_kept laws None spots old new f k s = tt
second_kept laws (Some h) spots old new f k s = held_kept laws h spots old new (f (held_layout h) refl) k s

pub images_say_kept : DeviceLaws → (g : Geometry) (images : Images) → ArePlaces g (places_of images) → (old new : List ℕ) → Keeps (bank_spots (settings_of (places_of images).first)) old new → ImagesSay images old → ImagesSay images new
images_say_kept laws g images are old new k s =
    let p = places_of images in
    let spots = bank_spots (settings_of p.first) in
    record {
      first = held_kept laws images.zero spots old new (side_apart g p are 0 p.first refl) k s.first;
      second = second_kept laws images.one spots old new (λ l at. side_apart g p are 1 l at) k s.second;
    }

stands_at_kept : DeviceLaws → (spots : List (ℕ × ℕ)) (old new : List ℕ) (x : Option Layout) (y : Option Side) → ((l : Layout) → x ≡ Some l → Apart l spots) → Keeps spots old new → StandsAt x y old → StandsAt x y new
stands_at_kept laws spots old new None None f k s = tt
stands_at_kept laws spots old new None (Some side) f k s = absurd s
stands_at_kept laws spots old new (Some l) None f k s = absurd s
stands_at_kept laws spots old new (Some l) (Some side) f k s = laws.stand l side spots old new (f l refl) k s

pub images_stand_kept : DeviceLaws → (g : Geometry) (p : Places) → ArePlaces g p → (t : ℕ) (d : AbstractDevice) (old new : List ℕ) → Keeps (bank_spots (settings_of p.first)) old new → ImagesStand p t d old → ImagesStand p t d new
images_stand_kept laws g p are t d old new k s = record {
  sides = λ i. stands_at_kept laws (bank_spots (settings_of p.first)) old new (place_at i p) (side_at i d) (λ l at. side_apart g p are i l at) k (s.sides i);
  target_is = s.target_is;
}

-- The frame of a call on the settings: all but what it reached.
pub record Framed (g : Geometry) (m : Meant) (up : Up) (settings : SettingsState) (r : Result Reply UploadFault) (a b : FlashState) : Type 0 where
  pub calls : Calls (bank_spots (settings_of (places_of up.images).first)) (result_end r) a b
  pub spots : spots_for (places_of up.images) (Ok m) ≡ bank_spots (settings_of (places_of up.images).first)
  pub saved : uses_saved m ≡ true
  pub layout : settings.layout ≡ up.settings.layout
  pub say : IfSome b.bytes (SettingsSay settings)
  pub ages : Told (AgesAtMost 1 (settings_of (places_of up.images).first)) a.bytes b.bytes
  pub caused : ResultCausedBy (places_of up.images) (Ok m) r a.bytes
  pub unworn : OnOk r (SavesUnworn (places_of up.images) (Ok m) a.bytes)

abbrev pub with_settings : Up → SettingsState → Up
with_settings up settings = record { images = up.images; settings = settings; files = up.files; counters = up.counters }

-- It comes to what is saved, and to no image.

saved_idle : (sizes : Sizes) (m : Meant) (up after : Up) (r : Result Reply UploadFault) (a b : FlashState) → uses_saved m ≡ true → Idles sizes (Ok m) up after r a b
saved_idle sizes m up after r a b is = λ d has images other. absurd (cc (sym other ∙ is))

saved_mounts : (sizes : Sizes) (m : Meant) (before : Images) (r : Replied) (a b : FlashState) → uses_saved m ≡ true → r.images ≡ before → MountsBy sizes (Ok m) before r a b
saved_mounts sizes meant.load before r a b is e = e
saved_mounts sizes meant.save before r a b is e = e
saved_mounts sizes m before r a b is e = absurd (cc is)

saved_erases : (m : Meant) (before : Images) (r : Result Reply UploadFault) (x : Option (List ℕ)) → uses_saved m ≡ true → ErasesBy (Ok m) before r x
saved_erases meant.load before r x is = tt
saved_erases meant.save before r x is = tt
saved_erases m before r x is = absurd (cc is)

saved_pays : DeviceLaws → (m : Result Meant ℕ) (up after : Up) (respond : AbstractDevice → Response) (r : Result Reply UploadFault) (spots : List (ℕ × ℕ)) (a b : FlashState) → Calls spots (result_end r) a b
    → Told (ReachedFrom (places_of up.images) respond up after r) a.bytes b.bytes → OnOk r (CountedPay up respond a b) → OnOk r (IfOfFlash m (ServicePays up respond a b))
saved_pays laws m up after respond (Ok reply) spots a b calls reached pays = if_of_flash m (ServicePays up respond a b) (nearer_pays laws up after respond reply a b calls.passes reached pays)
saved_pays laws m up after respond (Err fault) spots a b calls reached pays = tt

framed_served : DeviceLaws → (g : Geometry) (m : Meant) (up : Up) (settings : SettingsState) (r : Result Reply UploadFault) (a b : FlashState) → IsFor g up.images up.settings → IfSome a.bytes (UpSays up.images up.settings)
    → Framed g m up settings r a b → Told (ReachedFrom (places_of up.images) (λ d. response_to (sizes_of g) d (Ok m)) up (with_settings up settings) r) a.bytes b.bytes
    → OnOk r (CountedPay up (λ d. response_to (sizes_of g) d (Ok m)) a b) → Serves g (Ok m) up (with_settings up settings) r a b
framed_served laws g m up settings r a b for says f reached pays =
    let p = places_of up.images in
    let k = f.calls.keeps in
    record {
      calls = subst (λ (s : List (ℕ × ℕ)). Calls s (result_end r) a b) (sym f.spots) f.calls;
      reached = reached;
      says = both_say up.images settings b.bytes
          (Told-after (UpSays up.images up.settings) (Keeps (bank_spots (settings_of p.first))) (ImagesSay up.images) a.bytes b.bytes (λ u v s kept. images_say_kept laws g up.images for.places u v kept s.images_say) says k) f.say;
      places_kept = refl;
      settings_kept = f.layout;
      counters_kept = refl;
      caused = f.caused;
      unworn = f.unworn;
      progress_ages = progress_age g p for.places 5 a.bytes b.bytes k;
      settings_ages = f.ages;
      pending = pending_kept g p for.places a.bytes b.bytes k;
      untouched = saved_idle (sizes_of g) m up (with_settings up settings) r a b f.saved;
      mounts = saved_mounts (sizes_of g) m up.images (record { images = up.images; result = r }) a b f.saved refl;
      erased = saved_erases m up.images r b.bytes f.saved;
      pays = saved_pays laws (Ok m) up (with_settings up settings) (λ d. response_to (sizes_of g) d (Ok m)) r (bank_spots (settings_of p.first)) a b f.calls reached pays;
    }

-- the layout of the settings is the first image's
calls_at : (l first : Layout) (end : End) (a b : FlashState) → l ≡ first → Calls (bank_spots (settings_of l)) end a b → Calls (bank_spots (settings_of first)) end a b
calls_at l first end a b e c = subst (λ (x : Layout). Calls (bank_spots (settings_of x)) end a b) e c

pub end_of_bank : (r : Result (Unit {0}) BankFault) → bank_end r ≡ result_end (bank_reply r)
end_of_bank (Ok x) = refl
end_of_bank (Err banks.Unformatted) = refl
end_of_bank (Err (banks.Fault operation)) = refl
end_of_bank (Err banks.Off) = refl
end_of_bank (Err banks.Worn) = refl
end_of_bank (Err banks.Full) = refl

calls_as : (l first : Layout) (r : Result (Unit {0}) BankFault) (a b : FlashState) → l ≡ first → Calls (bank_spots (settings_of l)) (bank_end r) a b → Calls (bank_spots (settings_of first)) (result_end (bank_reply r)) a b
calls_as l first r a b e c = subst (λ (x : End). Calls (bank_spots (settings_of first)) x a b) (end_of_bank r) (calls_at l first (bank_end r) a b e c)

-- Load.

load_caused : (p : Places) (r : Result (Unit {0}) BankFault) (x : Option (List ℕ)) → (IsErrOf r banks.Unformatted → x ≡ None) → (IsErrOf r banks.Full → ⊥) → (IsErrOf r banks.Worn → ⊥) → ResultCausedBy p (Ok meant.load) (bank_reply r) x
load_caused p (Ok u) x un fu wo = tt
load_caused p (Err banks.Unformatted) x un fu wo = un refl
load_caused p (Err (banks.Fault operation)) x un fu wo = tt
load_caused p (Err banks.Off) x un fu wo = tt
load_caused p (Err banks.Full) x un fu wo = absurd (fu refl)
load_caused p (Err banks.Worn) x un fu wo = absurd (wo refl)

-- no byte changed
stands_on : (p : Places) (t : ℕ) (d e : AbstractDevice) (u : List ℕ) → e.first ≡ d.first → e.second ≡ d.second → e.saved ≡ d.saved → e.target ≡ d.target → Stands p t d u → Stands p t e u
stands_on p t d e u f s v a stands = record {
  images = record {
    sides = λ i. subst (λ (x : Option Side). StandsAt (place_at i p) x u) (sides_same i) (stands.images.sides i);
    target_is = a ∙ stands.images.target_is;
  };
  saved = subst (λ (x : List Setting). SavedStand p.first x u) (sym v) stands.saved;
}
  where
    sides_same : (i : ℕ) → side_at i d ≡ side_at i e
    sides_same zero = ap (λ (x : Side). Some x) (sym f)
    sides_same (suc zero) = sym s
    sides_same (suc (suc i)) = refl

-- what the value that says so has saved is what the bytes stand for
loaded_running : DeviceLaws → (p : Places) (settings : SettingsState) (d : AbstractDevice) (u : List ℕ) → settings.layout ≡ p.first → settings.running ≡ settings.saved → settings.bank.sure ≡ true → SettingsSay settings u → SavedStand p.first d.saved u
    → d.saved ≡ settings.running
loaded_running laws p settings d u e run sure say stands =
    laws.one_saved p.first d.saved settings.saved u stands (subst (λ (l : Layout). SavedStand l settings.saved u) e (say.saved sure)) ∙ sym run

load_told : DeviceLaws → (g : Geometry) (up : Up) (settings : SettingsState) (x y : Option (List ℕ)) → y ≡ x → settings.layout ≡ (places_of up.images).first → settings.running ≡ settings.saved → settings.bank.sure ≡ true → IfSome y (SettingsSay settings)
    → Told (ReachedFrom (places_of up.images) (λ d. response_to (sizes_of g) d (Ok meant.load)) up (with_settings up settings) (Ok replied.Empty)) x y
load_told laws g up settings None None e l run sure say = tt
load_told laws g up settings None (Some v) e l run sure say = absurd (cc e)
load_told laws g up settings (Some u) None e l run sure say = absurd (cc e)
load_told laws g up settings (Some u) (Some v) e l run sure say = λ d stands carries.
    let same : v ≡ u = cc e in
    let p = places_of up.images in
    let here : Stands p up.images.target d v = subst (λ (w : List ℕ). Stands p up.images.target d w) (sym same) stands in
    let after = applied (Run load_settings ∷ []) d in
    record {
      taken = Run load_settings ∷ [];
      went = (refl, refl);
      stands = stands_on p up.images.target d after v refl refl refl refl here;
      carries = record { running = loaded_running laws p settings d v l run sure say here.saved; files = carries.files; counters = carries.counters };
    }

-- nothing was done
nothing_told : (g : Geometry) (m : Meant) (up : Up) (settings : SettingsState) (fault : UploadFault) (x y : Option (List ℕ)) → y ≡ x → settings.running ≡ up.settings.running
    → Told (ReachedFrom (places_of up.images) (λ d. response_to (sizes_of g) d (Ok m)) up (with_settings up settings) (Err fault)) x y
nothing_told g m up settings fault None None e run = tt
nothing_told g m up settings fault None (Some v) e run = absurd (cc e)
nothing_told g m up settings fault (Some u) None e run = absurd (cc e)
nothing_told g m up settings fault (Some u) (Some v) e run = λ d stands carries.
    let same : v ≡ u = cc e in
    let p = places_of up.images in
    record {
      taken = [];
      went = ((response_to (sizes_of g) d (Ok m)).steps, refl);
      stands = subst (λ (w : List ℕ). Stands p up.images.target d w) (sym same) stands;
      carries = record { running = carries.running ∙ sym run; files = carries.files; counters = carries.counters };
    }

load_reached : DeviceLaws → (g : Geometry) (up : Up) (settings : SettingsState) (r : Result (Unit {0}) BankFault) (x y : Option (List ℕ)) → y ≡ x → settings.layout ≡ (places_of up.images).first
    → OnOk r ((settings.running ≡ settings.saved) × (settings.bank.sure ≡ true)) → OnErr r (settings ≡ up.settings) → IfSome y (SettingsSay settings)
    → Told (ReachedFrom (places_of up.images) (λ d. response_to (sizes_of g) d (Ok meant.load)) up (with_settings up settings) (bank_reply r)) x y
load_reached laws g up settings (Ok u) x y e l ok err say = load_told laws g up settings x y e l ok.0 ok.1 say
load_reached laws g up settings (Err fault) x y e l ok err say = nothing_told g meant.load up settings (of_bank fault) x y e (ap (λ (s : SettingsState). s.running) err)

-- a load counts nowhere
load_pays : (g : Geometry) (up : Up) (r : Result (Unit {0}) BankFault) (a b : FlashState) → OnOk (bank_reply r) (CountedPay up (λ d. response_to (sizes_of g) d (Ok meant.load)) a b)
load_pays g up (Ok u) a b = λ region d aim stands carries c. elim c [ inl one ↦ absurd (run_uncounted region d load_settings one) | inr more ↦ absurd more ]
load_pays g up (Err fault) a b = tt

load_unworn : (p : Places) (r : Result (Unit {0}) BankFault) (x : Option (List ℕ)) → OnOk (bank_reply r) (SavesUnworn p (Ok meant.load) x)
load_unworn p (Ok u) x = tt
load_unworn p (Err fault) x = tt

pub load_served : DeviceLaws → (g : Geometry) (up : Up) (settings : SettingsState) (r : Result (Unit {0}) BankFault) (a b : FlashState) → IsFor g up.images up.settings → IfSome a.bytes (UpSays up.images up.settings)
    → Calls (bank_spots (settings_of up.settings.layout)) (bank_end r) a b → b.bytes ≡ a.bytes → IfSome b.bytes (SettingsSay settings) → settings.layout ≡ up.settings.layout
    → OnOk r ((settings.running ≡ settings.saved) × (settings.bank.sure ≡ true)) → OnErr r (settings ≡ up.settings)
    → (IsErrOf r banks.Unformatted → a.bytes ≡ None) → (IsErrOf r banks.Full → ⊥) → (IsErrOf r banks.Worn → ⊥)
    → Serves g (Ok meant.load) up (with_settings up settings) (bank_reply r) a b
load_served laws g up settings r a b for says calls kept say layout ok err un fu wo =
    let p = places_of up.images in
    framed_served laws g meant.load up settings (bank_reply r) a b for says
    (record {
      calls = calls_as up.settings.layout p.first r a b for.layout calls;
      spots = refl;
      saved = refl;
      layout = layout;
      say = say;
      ages = Told-same (AgesAtMost 1 (settings_of p.first)) a.bytes b.bytes (λ u. record { kept = omega arith; most = omega arith }) kept;
      caused = load_caused p r a.bytes un fu wo;
      unworn = load_unworn p r a.bytes;
    })
    (load_reached laws g up settings r a.bytes b.bytes kept (layout ∙ for.layout) ok err say)
    (load_pays g up r a b)

-- Save.

worn_at : (l first : Layout) (x : Option (List ℕ)) → l ≡ first → IfSome x (IsWorn l) → IfSome x (λ held. newest_generation (settings_of first) held ≡ 2 ^ 32 - 1)
worn_at l first x e w = subst (λ (k : Layout). IfSome x (IsWorn k)) e w

save_caused : (p : Places) (r : Result (Unit {0}) BankFault) (x : Option (List ℕ)) → (IsErrOf r banks.Unformatted → x ≡ None) → (IsErrOf r banks.Full → ⊥)
    → (IsErrOf r banks.Worn → IfSome x (λ held. newest_generation (settings_of p.first) held ≡ 2 ^ 32 - 1)) → ResultCausedBy p (Ok meant.save) (bank_reply r) x
save_caused p (Ok u) x un fu wo = tt
save_caused p (Err banks.Unformatted) x un fu wo = un refl
save_caused p (Err (banks.Fault operation)) x un fu wo = tt
save_caused p (Err banks.Off) x un fu wo = tt
save_caused p (Err banks.Full) x un fu wo = absurd (fu refl)
save_caused p (Err banks.Worn) x un fu wo = wo refl

-- saved, or as before
saved_stands : DeviceLaws → (g : Geometry) (p : Places) → ArePlaces g p → (t : ℕ) (d : AbstractDevice) (running : List Setting) (u v : List ℕ) → Keeps (bank_spots (settings_of p.first)) u v → d.running ≡ running
    → saved_in p.first v ≡ Some running → Stands p t d u → Stands p t (applied (Save ∷ []) d) v
saved_stands laws g p are t d running u v k e is stands = record {
  images = record {
    sides = λ i. subst (λ (x : Option Side). StandsAt (place_at i p) x v) (sides_same i) ((images_stand_kept laws g p are t d u v k stands.images).sides i);
    target_is = stands.images.target_is;
  };
  saved = is ∙ ap (λ (x : List Setting). Some x) (sym e);
}
  where
    sides_same : (i : ℕ) → side_at i d ≡ side_at i (applied (Save ∷ []) d)
    sides_same zero = refl
    sides_same (suc zero) = refl
    sides_same (suc (suc i)) = refl

kept_stands : DeviceLaws → (g : Geometry) (p : Places) → ArePlaces g p → (t : ℕ) (d : AbstractDevice) (u v : List ℕ) → Keeps (bank_spots (settings_of p.first)) u v → saved_in p.first v ≡ saved_in p.first u → Stands p t d u → Stands p t d v
kept_stands laws g p are t d u v k e stands = record { images = images_stand_kept laws g p are t d u v k stands.images; saved = e ∙ stands.saved }

carries_save : (up : Up) (settings : SettingsState) (d : AbstractDevice) → settings.running ≡ up.settings.running → Carries up d → Carries (with_settings up settings) (applied (Save ∷ []) d)
carries_save up settings d run c = record { running = c.running ∙ sym run; files = c.files; counters = c.counters }

carries_none : (up : Up) (settings : SettingsState) (d : AbstractDevice) → settings.running ≡ up.settings.running → Carries up d → Carries (with_settings up settings) d
carries_none up settings d run c = record { running = c.running ∙ sym run; files = c.files; counters = c.counters }

save_ok : DeviceLaws → (g : Geometry) (up : Up) (settings : SettingsState) (x y : Option (List ℕ)) → ArePlaces g (places_of up.images) → Told (Keeps (bank_spots (settings_of (places_of up.images).first))) x y
    → settings.running ≡ up.settings.running → IfSome y (SavedStand (places_of up.images).first up.settings.running)
    → Told (ReachedFrom (places_of up.images) (λ d. response_to (sizes_of g) d (Ok meant.save)) up (with_settings up settings) (Ok replied.Empty)) x y
save_ok laws g up settings None None are k run all = tt
save_ok laws g up settings None (Some v) are k run all = absurd k
save_ok laws g up settings (Some u) None are k run all = absurd k
save_ok laws g up settings (Some u) (Some v) are k run all = λ d stands carries. record {
  taken = Save ∷ [];
  went = (refl, refl);
  stands = saved_stands laws g (places_of up.images) are up.images.target d up.settings.running u v k carries.running all stands;
  carries = carries_save up settings d run carries;
}

save_err : DeviceLaws → (g : Geometry) (up : Up) (settings : SettingsState) (fault : UploadFault) (x y : Option (List ℕ)) → ArePlaces g (places_of up.images) → Told (Keeps (bank_spots (settings_of (places_of up.images).first))) x y
    → settings.running ≡ up.settings.running → Told (SavedOrThis (places_of up.images).first up.settings.running) x y
    → Told (ReachedFrom (places_of up.images) (λ d. response_to (sizes_of g) d (Ok meant.save)) up (with_settings up settings) (Err fault)) x y
save_err laws g up settings fault None None are k run either = tt
save_err laws g up settings fault None (Some v) are k run either = absurd k
save_err laws g up settings fault (Some u) None are k run either = absurd k
save_err laws g up settings fault (Some u) (Some v) are k run either = λ d stands carries.
    let p = places_of up.images in
    elim either [
      | inl same ↦ record {
        taken = [];
        went = (Save ∷ [], refl);
        stands = kept_stands laws g p are up.images.target d u v k same stands;
        carries = carries_none up settings d run carries;
      }
      | inr this ↦ record {
        taken = Save ∷ [];
        went = ([], refl);
        stands = saved_stands laws g p are up.images.target d up.settings.running u v k carries.running this stands;
        carries = carries_save up settings d run carries;
      }
    ]

save_reached : DeviceLaws → (g : Geometry) (up : Up) (settings : SettingsState) (r : Result (Unit {0}) BankFault) (x y : Option (List ℕ)) → ArePlaces g (places_of up.images) → Told (Keeps (bank_spots (settings_of (places_of up.images).first))) x y
    → settings.running ≡ up.settings.running → OnOk r (IfSome y (SavedStand (places_of up.images).first up.settings.running)) → Told (SavedOrThis (places_of up.images).first up.settings.running) x y
    → Told (ReachedFrom (places_of up.images) (λ d. response_to (sizes_of g) d (Ok meant.save)) up (with_settings up settings) (bank_reply r)) x y
save_reached laws g up settings (Ok u) x y are k run all either = save_ok laws g up settings x y are k run all
save_reached laws g up settings (Err fault) x y are k run all either = save_err laws g up settings (of_bank fault) x y are k run either

-- A save counts where something differs from what is saved.

save_aims : (region : Region) (d : AbstractDevice) → IsCounted region d Save → ((Some region ≡ Some regions.Settings) ⊎ (Some region ≡ Some regions.SettingsGate)) × (d.running ≡ d.saved → ⊥)
save_aims regions.Settings d c = (inl refl, c)
save_aims regions.SettingsGate d c = (inr refl, c)
save_aims regions.Any d c = absurd c
save_aims regions.Slot0 d c = absurd c
save_aims regions.Slot1 d c = absurd c
save_aims regions.Progress d c = absurd c
save_aims regions.ProgressGate d c = absurd c
save_aims regions.Scratch d c = absurd c
save_aims regions.Slot2 d c = absurd c
save_aims regions.Slot3 d c = absurd c
save_aims regions.Progress2 d c = absurd c
save_aims regions.Progress2Gate d c = absurd c
save_aims regions.Scratch2 d c = absurd c

abbrev SavePays : Layout → List Setting → FlashState → FlashState → Option (List ℕ) → Type 0
SavePays layout running a b x = IfSome x (λ held. (SavedAlready layout running held → ⊥) → AimsAtSettings a.aim → Smaller a.patience b.patience)

save_counted : DeviceLaws → (up : Up) (a b : FlashState) (x : Option (List ℕ)) → SavePays (places_of up.images).first up.settings.running a b x → (d : AbstractDevice) → IsSomeAnd x (Stands (places_of up.images) up.images.target d) → Carries up d
    → (d.running ≡ d.saved → ⊥) → AimsAtSettings a.aim → Smaller a.patience b.patience
save_counted laws up a b None f d stands carries differs aims = absurd stands
save_counted laws up a b (Some u) f d stands carries differs aims =
    f (λ already. differs (carries.running ∙ laws.one_saved (places_of up.images).first up.settings.running d.saved u already stands.saved)) aims

save_pays : DeviceLaws → (g : Geometry) (up : Up) (r : Result (Unit {0}) BankFault) (a b : FlashState) → OnOk r (SavePays (places_of up.images).first up.settings.running a b a.bytes)
    → OnOk (bank_reply r) (CountedPay up (λ d. response_to (sizes_of g) d (Ok meant.save)) a b)
save_pays laws g up (Ok u) a b f = λ region d aim stands carries c. elim c [
  | inl one ↦ let s = save_aims region d one in save_counted laws up a b a.bytes f d stands carries s.1 (subst AimsAtSettings (sym aim) s.0)
  | inr more ↦ absurd more
]
save_pays laws g up (Err fault) a b f = tt

save_unworn : (p : Places) (layout : Layout) (r : Result (Unit {0}) BankFault) (x : Option (List ℕ)) → layout ≡ p.first → OnOk r (IfSome x (λ held. IsWorn layout held → ⊥)) → OnOk (bank_reply r) (SavesUnworn p (Ok meant.save) x)
save_unworn p layout (Ok u) x same f = subst (λ (l : Layout). IfSome x (λ held. IsWorn l held → ⊥)) same f
save_unworn p layout (Err fault) x same f = tt

pub save_served : DeviceLaws → (g : Geometry) (up : Up) (settings : SettingsState) (r : Result (Unit {0}) BankFault) (a b : FlashState) → IsFor g up.images up.settings → IfSome a.bytes (UpSays up.images up.settings)
    → Calls (bank_spots (settings_of up.settings.layout)) (bank_end r) a b → Told (SavedOrThis up.settings.layout up.settings.running) a.bytes b.bytes → OnOk r (IfSome b.bytes (SavedStand up.settings.layout up.settings.running))
    → Told (AgesAtMost 1 (settings_of up.settings.layout)) a.bytes b.bytes → IfSome b.bytes (SettingsSay settings) → settings.layout ≡ up.settings.layout → settings.running ≡ up.settings.running
    → (IsErrOf r banks.Worn → IfSome a.bytes (IsWorn up.settings.layout)) → (IsErrOf r banks.Unformatted → a.bytes ≡ None) → (IsErrOf r banks.Full → ⊥) → OnOk r (IfSome a.bytes (λ held. IsWorn up.settings.layout held → ⊥)) → OnOk r (SavePays up.settings.layout up.settings.running a b a.bytes)
    → Serves g (Ok meant.save) up (with_settings up settings) (bank_reply r) a b
save_served laws g up settings r a b for says calls either all ages say layout run wo un fu fresh pays =
    let p = places_of up.images in
    let at = calls_as up.settings.layout p.first r a b for.layout calls in
    framed_served laws g meant.save up settings (bank_reply r) a b for says
    (record {
      calls = at;
      spots = refl;
      saved = refl;
      layout = layout;
      say = say;
      ages = subst (λ (l : Layout). Told (AgesAtMost 1 (settings_of l)) a.bytes b.bytes) for.layout ages;
      caused = save_caused p r a.bytes un fu (λ is. worn_at up.settings.layout p.first a.bytes for.layout (wo is));
      unworn = save_unworn p up.settings.layout r a.bytes for.layout fresh;
    })
    (save_reached laws g up settings r a.bytes b.bytes for.places at.keeps run
    (subst (λ (l : Layout). OnOk r (IfSome b.bytes (SavedStand l up.settings.running))) for.layout all)
    (subst (λ (l : Layout). Told (SavedOrThis l up.settings.running) a.bytes b.bytes) for.layout either))
    (save_pays laws g up r a b (subst (λ (l : Layout). OnOk r (SavePays l up.settings.running a b a.bytes)) for.layout pays))

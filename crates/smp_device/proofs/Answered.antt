-- A request was answered.
use Rattle.std.proofs.Common.{◌≡◌, ℕ, Bool, true, false, Option, Some, None, List, Result, Ok, Err, sym, ◌∙◌, ap, subst}
use Rattle.std.specs.Prelude.{IfSome}
use Rattle.smp_flash.specs.State.{FlashState}
use Rattle.smp_flash.specs.declared.geometry.Geometry.{Geometry}
use Rattle.smp_header.specs.Message.{Message}
use Rattle.smp_model.specs.declared.device.Counters.{Counters}
use Rattle.smp_model.specs.declared.device.StoredFile.{StoredFile}
use Rattle.smp_model.specs.declared.reply.Reply.{Reply}
use Rattle.smp_model.specs.Handled.{is_reset}
use Rattle.smp_model.specs.Meant.{Meant}
use Rattle.smp_settings.specs.Saved.{SettingsState}
use Rattle.smp_upload.specs.declared.states.UploadFault.{UploadFault}
use Rattle.smp_upload.specs.declared.states.UploadFault.TheVariants as faults
use Rattle.smp_device.specs.Handling.{AnswersMeaning, AnswersRequest, Finishes, handled_by, left_by}
use Rattle.smp_device.specs.Places.{Places, places_of}
use Rattle.smp_device.specs.Serving.{Serves}
use Rattle.smp_device.specs.Telling.{Tells, TellsOne, TellsNothing, tells}
use Rattle.smp_device.specs.Up.{IsWhole, Up, UpSays, up_of}
use Rattle.smp_device.specs.declared.answering.Down.{Down}
use Rattle.smp_device.specs.declared.answering.Handled.{Handled}
use Rattle.smp_device.specs.declared.images.Images.{Images}
use Rattle.smp_device.proofs.ToldReplies.{Counted, told_served}

-- from memory
pub told_answers : Counted → (g : Geometry) (to : Message) (m : Meant) (up : Up) (r resets : Bool) (counters : Counters) (old out : List ℕ) (left : Option Images) (result : Result Handled Down) (a : FlashState) → r ≡ true
    → Tells r (tells up.settings.running up.files up.counters m) to up.counters counters old out → IfSome a.bytes (UpSays up.images up.settings) → resets ≡ is_reset (Ok m) → left ≡ left_by resets up.images → result ≡ Ok (handled_by resets)
    → AnswersRequest g to m up up.settings up.files counters out left result a a
told_answers counted g to m up r resets counters old out left result a e t says is l h =
    let one : TellsOne (tells up.settings.running up.files up.counters m) to up.counters counters out = subst (λ (b : Bool). Tells b (tells up.settings.running up.files up.counters m) to up.counters counters old out) e t in
    record {
      fate = Ok one.reply;
      images = up.images;
      serves = told_served counted g m up one.reply a says one.told_is;
      finishes = record {
        written = one.written;
        counted = one.counted;
        answer = h ∙ ap (λ (b : Bool). Ok (handled_by b)) is;
        left_is = l ∙ ap (λ (b : Bool). left_by b up.images) is;
      };
    }

-- by serving it
pub served_answers : (g : Geometry) (to : Message) (m : Meant) (up : Up) (r : Bool) (told : List ℕ) (middle after : Counters) (images : Images) (settings : SettingsState) (files : List StoredFile) (fate : Result Reply UploadFault) (old out : List ℕ) (left : Option Images)
    (result : Result Handled Down) (a b : FlashState) → r ≡ false → Tells r (tells up.settings.running up.files up.counters m) to up.counters middle old told
    → Serves g (Ok m) up (up_of images settings files up.counters) fate a b → Finishes to m middle after images fate out left result → AnswersRequest g to m up settings files after out left result a b
served_answers g to m up r told middle after images settings files fate old out left result a b e t serves finishes =
    let none : TellsNothing (tells up.settings.running up.files up.counters m) up.counters middle old told = subst (λ (x : Bool). Tells x (tells up.settings.running up.files up.counters m) to up.counters middle old told) e t in
    record {
      fate = fate;
      images = images;
      serves = serves;
      finishes = subst (λ (c : Counters). Finishes to m c after images fate out left result) none.counters_kept finishes;
    }

-- What is left of the images.

left_either : (P : Option Images → Type 0) (resets : Bool) (images : Images) → P None → P (Some images) → P (left_by resets images)
left_either P true images n s = n
left_either P false images n s = s

finished_left : (P : Option Images → Type 0) (to : Message) (m : Meant) (before after : Counters) (images : Images) (fate : Result Reply UploadFault) (out : List ℕ) (left : Option Images) (result : Result Handled Down)
    → P None → P (Some images) → Finishes to m before after images fate out left result → P left
finished_left P to m before after images (Ok reply) out left result n s f = subst P (sym f.left_is) (left_either P (is_reset (Ok m)) images n s)
finished_left P to m before after images (Err (faults.Fault operation)) out left result n s f = subst P (sym f.left_is) s
finished_left P to m before after images (Err faults.Worn) out left result n s f = subst P (sym f.left_is) s
finished_left P to m before after images (Err faults.Off) out left result n s f = subst P (sym f.left_is) n
finished_left P to m before after images (Err faults.Unformatted) out left result n s f = subst P (sym f.left_is) n

pub held_places : (p : Places) (was : Option Images) (images : Images) → was ≡ Some images → IfSome was (λ i. places_of i ≡ p) → places_of images ≡ p
held_places p was images e f = subst (λ (o : Option Images). IfSome o (λ i. places_of i ≡ p)) e f

-- what is held is of the same places
pub left_whole : (g : Geometry) (to : Message) (m : Result Meant ℕ) (p : Places) (was : Option Images) (up : Up) (settings : SettingsState) (files : List StoredFile) (counters : Counters) (out : List ℕ) (left : Option Images) (result : Result Handled Down) (a b : FlashState)
    → was ≡ Some up.images → IsWhole p was up.settings → AnswersMeaning g to m up settings files counters out left result a b → IsWhole p left settings
left_whole g to (Ok m) p was up settings files counters out left result a b e whole f = record {
  all = whole.all;
  images = finished_left (λ (o : Option Images). IfSome o (λ images. places_of images ≡ p)) to m up.counters counters f.images f.fate out left result tt (f.serves.places_kept ∙ held_places p was up.images e whole.images) f.finishes;
  layout = f.serves.settings_kept ∙ whole.layout;
}
left_whole g to (Err number) p was up settings files counters out left result a b e whole f = record {
  all = whole.all;
  images = subst (λ (o : Option Images). IfSome o (λ images. places_of images ≡ p)) (sym f.sent.left_is) (held_places p was up.images e whole.images);
  layout = ap (λ (s : SettingsState). s.layout) f.settings_kept ∙ whole.layout;
}

abbrev LeftSays : SettingsState → Option (List ℕ) → Option Images → Type 0
LeftSays settings x left = IfSome x (λ bytes. IfSome left (λ images. UpSays images settings bytes))

down_says : (settings : SettingsState) (x : Option (List ℕ)) → LeftSays settings x None
down_says settings None = tt
down_says settings (Some u) = tt

-- and says what the bytes are
pub left_says : (g : Geometry) (to : Message) (m : Result Meant ℕ) (up : Up) (settings : SettingsState) (files : List StoredFile) (counters : Counters) (out : List ℕ) (left : Option Images) (result : Result Handled Down) (a b : FlashState)
    → IfSome a.bytes (UpSays up.images up.settings) → AnswersMeaning g to m up settings files counters out left result a b → IfSome b.bytes (λ bytes. IfSome left (λ images. UpSays images settings bytes))
left_says g to (Ok m) up settings files counters out left result a b says f =
    finished_left (LeftSays settings b.bytes) to m up.counters counters f.images f.fate out left result (down_says settings b.bytes) f.serves.says f.finishes
left_says g to (Err number) up settings files counters out left result a b says f =
    subst (LeftSays settings b.bytes) (sym f.sent.left_is)
    (subst (λ (s : SettingsState). IfSome b.bytes (UpSays up.images s)) (sym f.settings_kept) (subst (λ (x : FlashState). IfSome x.bytes (UpSays up.images up.settings)) (sym f.flash) says))

-- a device that is up says so
pub up_says : (was : Option Images) (images : Images) (settings : SettingsState) (x : Option (List ℕ)) → was ≡ Some images → IfSome x (λ bytes. IfSome was (λ i. UpSays i settings bytes)) → IfSome x (UpSays images settings)
up_says was images settings x e f = subst (λ (o : Option Images). IfSome x (λ bytes. IfSome o (λ i. UpSays i settings bytes))) e f

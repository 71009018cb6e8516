-- Requests that change the running settings or a file, served.
use Rattle.std.proofs.Common.{◌≡◌, ℕ, Bool, true, false, not, Option, Some, None, List, [], ◌∷◌, Result, Ok, Err, refl, sym, ◌∙◌, ap, subst}
use Rattle.std.specs.Prelude.{IfSome, IsSome, IsTrue, ◌↔◌, find, filter, option_map}
use Rattle.std.specs.Str.{bytes_eq}
use Rattle.smp_files.specs.Writing.{Responds, written_reply}
use Rattle.smp_files.specs.declared.fault.FileFault.{FileFault}
use Rattle.smp_flash.specs.State.{FlashState}
use Rattle.smp_flash.specs.declared.geometry.Geometry.{Geometry}
use Rattle.smp_model.specs.declared.device.AbstractDevice.{AbstractDevice}
use Rattle.smp_model.specs.declared.device.StoredFile.{StoredFile}
use Rattle.smp_model.specs.declared.error.TheConstants.{SETTINGS_GROUP, SETTING_NAME_LENGTH, NO_SUCH_SETTING}
use Rattle.smp_model.specs.declared.reply.Reply.{Reply}
use Rattle.smp_model.specs.declared.reply.Reply.TheVariants as replied
use Rattle.smp_model.specs.declared.setting.Setting.{Setting}
use Rattle.smp_model.specs.FileGroup.{writes_file}
use Rattle.smp_model.specs.Meant as meant
use Rattle.smp_model.specs.Meant.{Meant}
use Rattle.smp_model.specs.Response.{Response, responds}
use Rattle.smp_model.specs.Said as said
use Rattle.smp_model.specs.Said.{Said, said_of}
use Rattle.smp_model.specs.Named.{named}
use Rattle.smp_model.specs.Settings.{is_setting_name, value_of, written_setting, deleted_setting}
use Rattle.smp_model.specs.SettingsGroup.{writes_setting, deletes_setting}
use Rattle.smp_model.specs.Steps.{applied}
use Rattle.smp_settings.specs.Saved.{SettingsState, after_write, written_response, deleted_response}
use Rattle.smp_settings.specs.declared.fault.SettingFault.{SettingFault}
use Rattle.smp_settings.specs.declared.fault.SettingFault.TheVariants as writes
use Rattle.smp_device.specs.Serving.{Serves, setting_reply}
use Rattle.smp_device.specs.Up.{Up, UpSays, Carries, up_of}
use Rattle.smp_device.specs.declared.images.Images.{Images}
use Rattle.smp_device.proofs.ServingQuietly.{Quietly, SameStanding, same_standing, quiet}

-- other running settings are said by the same bytes
running_say : (images : Images) (s : SettingsState) (running : List Setting) (x : Option (List ℕ)) → IfSome x (UpSays images s) → IfSome x (UpSays images (record s { running = running }))
running_say images s running None h = tt
running_say images s running (Some u) h = record {
  images_say = h.images_say;
  settings_say = record { readable = h.settings_say.readable; place = h.settings_say.place; bank = h.settings_say.bank; saved = h.settings_say.saved };
}

-- A write.

write_reply_is : (r : Result (Unit {0}) SettingFault) (name val : List ℕ) → said_of (setting_reply r) ≡ (written_response r name val).reply
write_reply_is (Ok x) name val = refl
write_reply_is (Err writes.NameLength) name val = refl
write_reply_is (Err writes.ValueLength) name val = refl
write_reply_is (Err writes.Full) name val = refl

write_standing : (r : Result (Unit {0}) SettingFault) (name val : List ℕ) (d : AbstractDevice) → SameStanding d (applied (written_response r name val).steps d)
write_standing (Ok x) name val d = record { first = refl; second = refl; saved = refl; target = refl }
write_standing (Err writes.NameLength) name val d = same_standing d
write_standing (Err writes.ValueLength) name val d = same_standing d
write_standing (Err writes.Full) name val d = same_standing d

write_carries : (r : Result (Unit {0}) SettingFault) (name val : List ℕ) (up : Up) (d : AbstractDevice) → Carries up d
    → Carries (up_of up.images (record up.settings { running = after_write r name val up.settings.running }) up.files up.counters) (applied (written_response r name val).steps d)
write_carries (Ok x) name val up d c = record { running = ap (written_setting name val) c.running; files = c.files; counters = c.counters }
write_carries (Err writes.NameLength) name val up d c = record { running = c.running; files = c.files; counters = c.counters }
write_carries (Err writes.ValueLength) name val up d c = record { running = c.running; files = c.files; counters = c.counters }
write_carries (Err writes.Full) name val up d c = record { running = c.running; files = c.files; counters = c.counters }

pub write_served : (g : Geometry) (name val : List ℕ) (r : Result (Unit {0}) SettingFault) (up : Up) (settings : SettingsState) (a : FlashState) → IfSome a.bytes (UpSays up.images up.settings)
    → writes_setting up.settings.running name val ≡ written_response r name val → settings ≡ record up.settings { running = after_write r name val up.settings.running }
    → Serves g (Ok (meant.setting_write name val)) up (up_of up.images settings up.files up.counters) (Ok (setting_reply r)) a a
write_served g name val r up settings a says w e =
    let new = record up.settings { running = after_write r name val up.settings.running } in
    subst (λ (s : SettingsState). Serves g (Ok (meant.setting_write name val)) up (up_of up.images s up.files up.counters) (Ok (setting_reply r)) a a) (sym e)
    (quiet g (Ok (meant.setting_write name val)) up (up_of up.images new up.files up.counters) (setting_reply r) a refl refl refl refl (running_say up.images up.settings (after_write r name val up.settings.running) a.bytes says)
    (λ d c. subst (λ (x : Response). Quietly x d (up_of up.images new up.files up.counters) (setting_reply r)) (sym (ap (λ (running : List Setting). writes_setting running name val) c.running ∙ w))
    (record { reply = write_reply_is r name val; standing = write_standing r name val d; carries = write_carries r name val up d c })))

-- A delete.

pub delete_refused : (g : Geometry) (name : List ℕ) (up : Up) (a : FlashState) → IfSome a.bytes (UpSays up.images up.settings) → is_setting_name name ≡ false
    → Serves g (Ok (meant.setting_delete name)) up up (Ok (replied.GroupError SETTINGS_GROUP SETTING_NAME_LENGTH)) a a
delete_refused g name up a says e =
    quiet g (Ok (meant.setting_delete name)) up up (replied.GroupError SETTINGS_GROUP SETTING_NAME_LENGTH) a refl refl refl refl says
    (λ d c. subst (λ (x : Response). Quietly x d up (replied.GroupError SETTINGS_GROUP SETTING_NAME_LENGTH)) (sym (refusal d)) (record { reply = refl; standing = same_standing d; carries = c }))
  where
    refusal : (d : AbstractDevice) → deletes_setting d.running name ≡ responds (said.group_error SETTINGS_GROUP SETTING_NAME_LENGTH) []
    refusal d = rw e refl

delete_standing : (there : Bool) (name : List ℕ) (d : AbstractDevice) → SameStanding d (applied (deleted_response there name).steps d)
delete_standing true name d = record { first = refl; second = refl; saved = refl; target = refl }
delete_standing false name d = same_standing d

abbrev delete_reply : Bool → Reply
delete_reply true = replied.Empty
delete_reply false = replied.GroupError SETTINGS_GROUP NO_SUCH_SETTING

delete_reply_is : (there : Bool) (name : List ℕ) → said_of (delete_reply there) ≡ (deleted_response there name).reply
delete_reply_is true name = refl
delete_reply_is false name = refl

delete_carries : (there : Bool) (name : List ℕ) (up : Up) (d : AbstractDevice) → (there ≡ false → deleted_setting name up.settings.running ≡ up.settings.running) → Carries up d
    → Carries (up_of up.images (record up.settings { running = deleted_setting name up.settings.running }) up.files up.counters) (applied (deleted_response there name).steps d)
delete_carries true name up d e c = record { running = ap (deleted_setting name) c.running; files = c.files; counters = c.counters }
delete_carries false name up d e c = record { running = c.running ∙ sym (e refl); files = c.files; counters = c.counters }

pub delete_served : (g : Geometry) (name : List ℕ) (there : Bool) (up : Up) (settings : SettingsState) (a : FlashState) → IfSome a.bytes (UpSays up.images up.settings)
    → deletes_setting up.settings.running name ≡ deleted_response there name → settings ≡ record up.settings { running = deleted_setting name up.settings.running }
    → (there ≡ false → deleted_setting name up.settings.running ≡ up.settings.running)
    → Serves g (Ok (meant.setting_delete name)) up (up_of up.images settings up.files up.counters) (Ok (delete_reply there)) a a
delete_served g name there up settings a says w e none =
    let new = record up.settings { running = deleted_setting name up.settings.running } in
    subst (λ (s : SettingsState). Serves g (Ok (meant.setting_delete name)) up (up_of up.images s up.files up.counters) (Ok (delete_reply there)) a a) (sym e)
    (quiet g (Ok (meant.setting_delete name)) up (up_of up.images new up.files up.counters) (delete_reply there) a refl refl refl refl (running_say up.images up.settings (deleted_setting name up.settings.running) a.bytes says)
    (λ d c. subst (λ (x : Response). Quietly x d (up_of up.images new up.files up.counters) (delete_reply there)) (sym (ap (λ (running : List Setting). deletes_setting running name) c.running ∙ w))
    (record { reply = delete_reply_is there name; standing = delete_standing there name d; carries = delete_carries there name up d none c })))

-- a delete that found the name, or did not
pub deleted_as : (g : Geometry) (name : List ℕ) (r there : Bool) (reply : Reply) (up : Up) (settings : SettingsState) (a : FlashState) → r ≡ there → reply ≡ delete_reply there → IfSome a.bytes (UpSays up.images up.settings)
    → deletes_setting up.settings.running name ≡ deleted_response r name → settings ≡ record up.settings { running = deleted_setting name up.settings.running }
    → (r ≡ false → deleted_setting name up.settings.running ≡ up.settings.running)
    → Serves g (Ok (meant.setting_delete name)) up (up_of up.images settings up.files up.counters) (Ok reply) a a
deleted_as g name r there reply up settings a e f says w s none =
    subst (λ (x : Reply). Serves g (Ok (meant.setting_delete name)) up (up_of up.images settings up.files up.counters) (Ok x) a a) (sym f)
    (subst (λ (b : Bool). Serves g (Ok (meant.setting_delete name)) up (up_of up.images settings up.files up.counters) (Ok (delete_reply b)) a a) e (delete_served g name r up settings a says w s none))

-- Without the name nothing is deleted.

found_first : (p : Setting → Bool) (x : Setting) (xs : List Setting) → p x ≡ true → find p (x ∷ xs) ≡ Some x
found_first p x xs h = rw h refl

found_behind : (p : Setting → Bool) (x : Setting) (xs : List Setting) → p x ≡ false → find p (x ∷ xs) ≡ find p xs
found_behind p x xs h = rw h refl

kept_first : (p : Setting → Bool) (x : Setting) (xs ys : List Setting) → p x ≡ false → filter (λ y. not (p y)) xs ≡ ys → filter (λ y. not (p y)) (x ∷ xs) ≡ x ∷ ys
kept_first p x xs ys h e = rw h (ap (λ zs. x ∷ zs) e)

without_step : (p : Setting → Bool) (x : Setting) (xs : List Setting) (b : Bool) → p x ≡ b → find p (x ∷ xs) ≡ None → (find p xs ≡ None → filter (λ y. not (p y)) xs ≡ xs) → filter (λ y. not (p y)) (x ∷ xs) ≡ x ∷ xs
without_step p x xs true h e f = absurd (cc (sym (found_first p x xs h) ∙ e))
without_step p x xs false h e f = kept_first p x xs xs h (f (sym (found_behind p x xs h) ∙ e))

without_none : (p : Setting → Bool) (xs : List Setting) → find p xs ≡ None → filter (λ x. not (p x)) xs ≡ xs
without_none p [] e = refl
without_none p (x ∷ xs) e = without_step p x xs (p x) refl e (without_none p xs)

no_value : (o : Option Setting) → (IsSome (option_map (λ s. s.val) o) → ⊥) → o ≡ None
no_value None f = refl
no_value (Some s) f = absurd (f refl)

pub none_same : (name : List ℕ) (running : List Setting) (r : Bool) → r ≡ false → IsTrue r ↔ IsSome (value_of name running) → deleted_setting name running ≡ running
none_same name running r e iff = without_none (λ s. bytes_eq s.name name) running (no_value (named (λ s. s.name) name running) (λ there. let t : IsTrue r = iff.1 there in absurd (cc (sym e ∙ t))))

-- A part of a file.

pub file_served : (g : Geometry) (off : ℕ) (part : List ℕ) (len : Option ℕ) (name : List ℕ) (r : Result ℕ FileFault) (reply : Reply) (up : Up) (files : List StoredFile) (a : FlashState) → IfSome a.bytes (UpSays up.images up.settings)
    → said_of reply ≡ written_reply r → Responds (writes_file up.files off part len name) r up.files files
    → Serves g (Ok (meant.file_write off part len name)) up (up_of up.images up.settings files up.counters) (Ok reply) a a
file_served g off part len name r reply up files a says e w =
    quiet g (Ok (meant.file_write off part len name)) up (up_of up.images up.settings files up.counters) reply a refl refl refl refl says
    (λ d c. subst (λ (x : Response). Quietly x d (up_of up.images up.settings files up.counters) reply) (sym (ap (λ (fs : List StoredFile). writes_file fs off part len name) c.files))
    (let after : applied (writes_file up.files off part len name).steps d ≡ record d { files = files } = w.steps d c.files in
    record {
      reply = e ∙ sym w.reply;
      standing = record {
        first = ap (λ (x : AbstractDevice). x.first) after;
        second = ap (λ (x : AbstractDevice). x.second) after;
        saved = ap (λ (x : AbstractDevice). x.saved) after;
        target = ap (λ (x : AbstractDevice). x.target) after;
      };
      carries = record {
        running = ap (λ (x : AbstractDevice). x.running) after ∙ c.running;
        files = ap (λ (x : AbstractDevice). x.files) after;
        counters = ap (λ (x : AbstractDevice). x.counters) after ∙ c.counters;
      };
    }))

-- What is answered from memory is the device's reply, and it has no steps.
use Rattle.std.proofs.Common.{◌≡◌, ℕ, ◌≤◌, ◌==◌, arith, Bool, true, false, not, Option, Some, None, List, [], Result, Ok, Err, refl, sym, ◌∙◌, ap, subst, if◌then◌else◌, nat_lt}
use Rattle.std.proofs.lemmas.Bool.Decides.{nat_tests}
use Rattle.std.specs.Prelude.{IfSome, IsSome, ◌↔◌, length}
use Rattle.smp_flash.specs.State.{FlashState}
use Rattle.smp_flash.specs.declared.geometry.Geometry.{Geometry}
use Rattle.smp_model.specs.declared.device.AbstractDevice.{AbstractDevice}
use Rattle.smp_model.specs.declared.device.Counters.{Counters}
use Rattle.smp_model.specs.declared.device.StoredFile.{StoredFile}
use Rattle.smp_model.specs.declared.reply.Reply.{Reply}
use Rattle.smp_model.specs.declared.reply.Reply.TheVariants as replied
use Rattle.smp_model.specs.declared.setting.Setting.{Setting}
use Rattle.smp_model.specs.Counters.{os_reply}
use Rattle.smp_model.specs.Does.{does}
use Rattle.smp_model.specs.FileGroup.{about_file, if_file, is_sha256, reads_held, hashes_held, reads_file, tells_length, hashes_file, refuses_file, length_at}
use Rattle.smp_model.specs.Files.{file_of, is_file_name}
use Rattle.smp_model.specs.Handled.{response_to}
use Rattle.smp_model.specs.Meant as meant
use Rattle.smp_model.specs.Meant.{Meant}
use Rattle.smp_model.specs.Response.{Response, reply_alone}
use Rattle.smp_model.specs.Said as said
use Rattle.smp_model.specs.Said.{Said, said_of}
use Rattle.smp_model.specs.Settings.{is_setting_name, value_of}
use Rattle.smp_model.specs.SettingsGroup.{reads_setting, reads_value, refuses_setting}
use Rattle.smp_model.specs.declared.device.Sizes.{Sizes}
use Rattle.smp_model.specs.declared.error.TheConstants.{SETTING_NAME_LENGTH, FILE_NAME_LENGTH, PAST_FILE_END, NO_SUCH_HASH}
use Rattle.smp_device.specs.Places.{places_of}
use Rattle.smp_device.specs.Serving.{Serves, spots_for}
use Rattle.smp_device.specs.Telling.{Fitting, tells}
use Rattle.smp_device.specs.Up.{Up, UpSays, Carries}
use Rattle.smp_device.specs.Uploads.{sizes_of}
use Rattle.smp_device.proofs.ServingQuietly.{Quietly, same_standing, quiet}

-- a response without steps
abbrev Alone : Response → Type 0
Alone r = r ≡ reply_alone r.reply

alone_if : (b : Bool) (x y : Response) → Alone x → Alone y → Alone (if b then x else y)
alone_if true x y f g = f
alone_if false x y f g = g

value_alone : (size : Option ℕ) (val : Option (List ℕ)) → Alone (reads_value size val)
value_alone size None = refl
value_alone size (Some val) = refl

setting_alone : (running : List Setting) (name : List ℕ) (size : Option ℕ) → Alone (reads_setting running name size)
setting_alone running name size = alone_if (not (is_setting_name name)) (refuses_setting SETTING_NAME_LENGTH) (reads_value size (value_of name running)) refl (value_alone size (value_of name running))

found_alone : (file : Option StoredFile) (response : StoredFile → Response) → ((f : StoredFile) → Alone (response f)) → Alone (if_file file response)
found_alone None response f = refl
found_alone (Some x) response f = f x

about_alone : (files : List StoredFile) (name : List ℕ) (response : StoredFile → Response) → ((f : StoredFile) → Alone (response f)) → Alone (about_file files name response)
about_alone files name response f =
    alone_if (not (is_file_name name)) (refuses_file FILE_NAME_LENGTH) (if_file (file_of name files) response) refl (found_alone (file_of name files) response f)

held_alone : (off : ℕ) (f : StoredFile) → Alone (reads_held off f)
held_alone off f = alone_if (nat_lt (length f.held) off) (refuses_file PAST_FILE_END) (reply_alone (said.file_part off (length_at off f) _)) refl refl

hash_alone : (kind : Option (List ℕ)) (off : ℕ) (len : Option ℕ) (f : StoredFile) → Alone (hashes_held kind off len f)
hash_alone kind off len f =
    alone_if (not (is_sha256 kind)) (refuses_file NO_SUCH_HASH) _ refl (alone_if (nat_lt (length f.held) off) (refuses_file PAST_FILE_END) _ refl refl)

-- the law of the groups OS and statistics
abbrev pub Counted : Type 0
Counted = (sizes : Sizes) (d : AbstractDevice) (m : Meant) (reply : Said) → os_reply d.counters m ≡ Some reply → does sizes d m ≡ reply_alone reply

some_is : (x y : Said) → Some x ≡ Some y → x ≡ y
some_is x y e = cc e

by_reply : (r : Response) (s : Said) → Alone r → Some r.reply ≡ Some s → r ≡ reply_alone s
by_reply r s a e = a ∙ ap reply_alone (some_is r.reply s e)

told_alone : Counted → (sizes : Sizes) (d : AbstractDevice) (m : Meant) (s : Said) → tells d.running d.files d.counters m ≡ Some s → does sizes d m ≡ reply_alone s
told_alone counted sizes d (meant.setting_read name size) s e = by_reply (reads_setting d.running name size) s (setting_alone d.running name size) e
told_alone counted sizes d meant.commit s e = ap reply_alone (some_is said.empty s e)
told_alone counted sizes d (meant.file_read off name) s e = by_reply (reads_file d.files off name) s (about_alone d.files name (reads_held off) (held_alone off)) e
told_alone counted sizes d (meant.file_status name) s e = by_reply (tells_length d.files name) s (about_alone d.files name _ (λ f. refl)) e
told_alone counted sizes d (meant.file_hash name kind off len) s e = by_reply (hashes_file d.files name kind off len) s (about_alone d.files name (hashes_held kind off len) (hash_alone kind off len)) e
told_alone counted sizes d meant.file_types s e = ap reply_alone (some_is said.file_types s e)
told_alone counted sizes d meant.file_close s e = ap reply_alone (some_is said.empty s e)
told_alone counted sizes d m s e = counted sizes d m s e

-- it makes no operation on the flash
told_spots : (up : Up) (running : List Setting) (files : List StoredFile) (counters : Counters) (m : Meant) (s : Said) → tells running files counters m ≡ Some s → spots_for (places_of up.images) (Ok m) ≡ []
told_spots up running files counters meant.image_list s e = absurd (cc e)
told_spots up running files counters (meant.image_set hash confirm) s e = absurd (cc e)
told_spots up running files counters (meant.upload image len off sha part) s e = absurd (cc e)
told_spots up running files counters (meant.erase slot) s e = absurd (cc e)
told_spots up running files counters meant.load s e = absurd (cc e)
told_spots up running files counters meant.save s e = absurd (cc e)
told_spots up running files counters m s e = refl

plainly : (sizes : Sizes) (m : Result Meant ℕ) (d : AbstractDevice) (up : Up) (reply : Reply) → response_to sizes d m ≡ reply_alone (said_of reply) → Carries up d → Quietly (response_to sizes d m) d up reply
plainly sizes m d up reply e c = subst (λ (r : Response). Quietly r d up reply) (sym e) (record { reply = refl; standing = same_standing d; carries = c })

pub told_served : Counted → (g : Geometry) (m : Meant) (up : Up) (reply : Reply) (a : FlashState) → IfSome a.bytes (UpSays up.images up.settings) → tells up.settings.running up.files up.counters m ≡ Some (said_of reply) → Serves g (Ok m) up up (Ok reply) a a
told_served counted g m up reply a says e =
    quiet g (Ok m) up up reply a (told_spots up up.settings.running up.files up.counters m (said_of reply) e) refl refl refl says
    (λ d c. plainly (sizes_of g) (Ok m) d up reply (told_alone counted (sizes_of g) d m (said_of reply) (same d c ∙ e)) c)
  where
    same : (d : AbstractDevice) → Carries up d → tells d.running d.files d.counters m ≡ tells up.settings.running up.files up.counters m
    same d c = λ i. tells (c.running i) (c.files i) (c.counters i) m

-- a packet that means no request
pub error_served : (g : Geometry) (number : ℕ) (up : Up) (a : FlashState) → IfSome a.bytes (UpSays up.images up.settings) → Serves g (Err number) up up (Ok (replied.SmpError number)) a a
error_served g number up a says = quiet g (Err number) up up (replied.SmpError number) a refl refl refl refl says (λ d c. plainly (sizes_of g) (Err number) d up (replied.SmpError number) refl c)

-- A part of a file can be sent: its length is there at offset 0 alone.

length_told : (off : ℕ) (f : StoredFile) → IsSome (length_at off f) ↔ (off ≡ 0)
length_told off f = go (off == 0) refl
  where
    go : (t : Bool) → (off == 0) ≡ t → IsSome (if t then Some (length f.held) else None) ↔ (off ≡ 0)
    go true e = (λ is. grind (arith, nat_tests, e), λ at. refl)
    go false e = (λ is. absurd (cc (sym is)), λ at. absurd (grind (arith, nat_tests, e, at)))

pub part_fits : (off : ℕ) (held part : List ℕ) (len : Option ℕ) → length part ≤ 1024 → len ≡ length_at off (record { name = []; announced = 0; held = held }) → Fitting (said.file_part off len part)
part_fits off held part len le e = record {
  room = omega arith;
  sendable = subst (λ (o : Option ℕ). IsSome o ↔ (off ≡ 0)) (sym e) (length_told off (record { name = []; announced = 0; held = held }));
}

-- What the abstract device answers can be sent, and fits a packet: its errors are in the table, a file's length stands at
-- offset 0, and what is read of a setting or a file is short.
use Rattle.std.proofs.Common.{◌≡◌, ◌+◌, ◌-◌, ◌==◌, not, ℕ, List, [], ◌∷◌, ◌++◌, length, Bool, true, false, Option, Some, None, refl, sym, subst, arith, length-append, if◌then◌else◌, nat_lt}
use Rattle.std.specs.Prelude.{◌↔◌, ◌≤◌, IsSome, Ok, Err, ◌&&◌, option_map, find, take, drop}
use Rattle.std.specs.List.{All}
use Rattle.std.specs.Str.{bytes_eq}
use Rattle.std.proofs.lemmas.Bool.Decides.{nat_tests}
use Rattle.std.proofs.lemmas.List.{length-take}
use Rattle.std.proofs.lemmas.List.Elements.{All-head, All-tail}
use Rattle.smp_model.specs.declared.device.AbstractDevice.{AbstractDevice}
use Rattle.smp_model.specs.declared.device.Counters.{Counters}
use Rattle.smp_model.specs.declared.device.Side.{Side}
use Rattle.smp_model.specs.declared.device.Sizes.{Sizes}
use Rattle.smp_model.specs.declared.device.StoredFile.{StoredFile}
use Rattle.smp_model.specs.declared.device.Upload.{Upload}
use Rattle.smp_model.specs.declared.setting.Setting.{Setting}
use Rattle.smp_model.specs.declared.reply.SidePair.{SidePair}
use Rattle.smp_model.specs.declared.reply.SlotEntry.{SlotEntry}
use Rattle.smp_model.specs.declared.upload.Announcement.{Announcement}
use Rattle.smp_model.specs.declared.upload.Mark.{Mark}
use Rattle.smp_model.specs.Counters.{stat_group_reply}
use Rattle.smp_model.specs.Does.{does}
use Rattle.smp_model.specs.FileGroup.{refuses_file, if_file, about_file, length_at, reads_held, reads_file, is_sha256, hashes_held, is_no_free_file, begins_file, continues_file, writes_file}
use Rattle.smp_model.specs.Files.{is_file_name, longest_file, file_of}
use Rattle.smp_model.specs.ImageGroup.{completes, keeps, takes_part, part_at, begins, new_start, resumes, start_at, side_of, has_wrong_size, begins_with_magic, start_of, part_of, uploads_to, uploads, wants, refuses_image, refuses_part, lists_with, mark_of, same_mark, marks, confirms, runs, holds, confirms_on, marks_on, sets_hash, sets_no_hash, sets_image, erase_of, erases_on, erases}
use Rattle.smp_model.specs.Meant as meant
use Rattle.smp_model.specs.Meant.{Meant}
use Rattle.smp_model.specs.Response.{Response, SideResponse, settling, reply_alone}
use Rattle.smp_model.specs.Said as said
use Rattle.smp_model.specs.Said.{Said, if_some, slots_of, listed}
use Rattle.smp_model.specs.Errors.{IsGroupError}
use Rattle.smp_model.specs.Named.{named}
use Rattle.smp_model.specs.Settings.{value_of, is_setting_name, is_setting_value, is_full}
use Rattle.smp_model.specs.SettingsGroup.{refuses_setting, at_most, reads_value, reads_setting, writes_setting, deletes_value}
use Rattle.smp_model.specs.Sides.{side_settle}
use Rattle.smp_model.specs.Steps.{side_at, settle}
use Rattle.smp_model.specs.Uploads.{differs, is_tagged_by, kept, is_resumed_by}
use Rattle.smp_reply.specs.Room.{room_of, EchoFits}
use Rattle.smp_reply.specs.Sendable.{IsSendable}
use Rattle.smp_model.specs.declared.error.TheConstants.{INVALID_DIGEST, IMAGE_TOO_LARGE, INVALID_HEADER, WRONG_MAGIC, HASH_NOT_FOUND, INVALID_SLOT, PAST_UPLOAD_END, ALREADY_PENDING, SETTING_NAME_LENGTH, FILE_NAME_LENGTH, PAST_FILE_END}
use Rattle.smp_header.specs.declared.TheConstants.{LARGEST_PACKET}

-- An error of the table, or a reply with no text or bytes of its own. An echo, a value and a part of a file are looked at
-- apart.
abbrev IsOrdinary : Said → Type 0
IsOrdinary (said.group_error group number) = IsGroupError group number
IsOrdinary (said.echo t) = ⊥
IsOrdinary (said.setting val) = ⊥
IsOrdinary (said.file_part off len part) = ⊥
IsOrdinary reply = Unit {0}

abbrev CanBeSent : Response → Type 0
CanBeSent r = IsOrdinary r.reply

-- either of two that can be sent
sent : (b : Bool) (x y : Response) → CanBeSent x → CanBeSent y → CanBeSent (if b then x else y)
sent true x y p q = p
sent false x y p q = q

-- what one side answers
abbrev SideCanBeSent : SideResponse → Type 0
SideCanBeSent r = IsOrdinary r.reply

side_sent : (b : Bool) (x y : SideResponse) → SideCanBeSent x → SideCanBeSent y → SideCanBeSent (if b then x else y)
side_sent true x y p q = p
side_sent false x y p q = q

completes_sent : (held bytes : List ℕ) (digest : Option (List ℕ)) → SideCanBeSent (completes held bytes digest)
completes_sent held bytes None = tt
completes_sent held bytes (Some d) = side_sent (differs (Some d) (held ++ bytes)) _ _ tt tt

keeps_sent : (a : Announcement) (held bytes : List ℕ) → SideCanBeSent (keeps a held bytes)
keeps_sent a held [] = tt
keeps_sent a held (x ∷ xs) = side_sent (length held + length (x ∷ xs) == a.length) (completes held (x ∷ xs) a.digest) _ (completes_sent held (x ∷ xs) a.digest) tt

part_sent : (unit : ℕ) (a : Announcement) (held bytes : List ℕ) → SideCanBeSent (takes_part unit a held bytes)
part_sent unit a held bytes =
    side_sent (nat_lt a.length (length held + length bytes)) (refuses_part PAST_UPLOAD_END) _ refl (keeps_sent a held (kept unit a.length (length held) bytes))

begins_sent : (unit : ℕ) (a : Announcement) (bytes : List ℕ) → SideCanBeSent (begins unit a bytes)
begins_sent unit a bytes = side_sent (nat_lt a.length (length bytes)) (refuses_part PAST_UPLOAD_END) _ refl (part_sent unit a [] bytes)

new_sent : (unit : ℕ) (p : Option Mark) (a : Announcement) (bytes : List ℕ) → SideCanBeSent (new_start unit a bytes p)
new_sent unit (Some m) a bytes = refl
new_sent unit None a bytes = begins_sent unit a bytes

resumed_sent : (unit : ℕ) (a : Announcement) (held bytes : List ℕ) → SideCanBeSent (resumes unit a held bytes)
resumed_sent unit a [] bytes = part_sent unit a [] bytes
resumed_sent unit a (x ∷ xs) bytes = tt

start_sent : (unit : ℕ) (p : Option Mark) (u : Option Upload) (a : Announcement) (bytes : List ℕ) → SideCanBeSent (start_at unit a bytes p u)
start_sent unit p None a bytes = new_sent unit p a bytes
start_sent unit p (Some u) a bytes = side_sent (is_resumed_by u.announcement a) _ _ (resumed_sent unit u.announcement u.accepted bytes) (new_sent unit p a bytes)

part_at_sent : (unit : ℕ) (u : Option Upload) (off : ℕ) (tag : Option (List ℕ)) (bytes : List ℕ) → SideCanBeSent (part_at unit off tag bytes u)
part_at_sent unit None off tag bytes = tt
part_at_sent unit (Some u) off tag bytes =
    side_sent ((off == length u.accepted) && is_tagged_by tag u.announcement.digest) _ (wants (length u.accepted)) (part_sent unit u.announcement u.accepted bytes) tt

-- the device
start_of_sent : (sizes : Sizes) (i : ℕ) (s : Side) (len : Option ℕ) (sha : Option (List ℕ)) (bytes : List ℕ) → CanBeSent (start_of sizes i s len sha bytes)
start_of_sent sizes i s None sha bytes = refl
start_of_sent sizes i s (Some n) sha bytes =
    sent (has_wrong_size sha) (refuses_image INVALID_DIGEST) _ refl
    (sent (nat_lt (sizes.slot - sizes.page) n) (refuses_image IMAGE_TOO_LARGE) _ refl
    (sent (nat_lt (length bytes) 32) (refuses_image INVALID_HEADER) _ refl
    (sent (not (begins_with_magic bytes)) (refuses_image WRONG_MAGIC) _ refl
    (start_sent sizes.unit s.pending (side_settle s).upload (record { length = n; digest = sha }) bytes))))

part_of_sent : (sizes : Sizes) (i : ℕ) (s : Side) (off : ℕ) (sha : Option (List ℕ)) (bytes : List ℕ) → CanBeSent (part_of sizes i s off sha bytes)
part_of_sent sizes i s off sha bytes = sent (has_wrong_size sha) (refuses_image INVALID_DIGEST) _ refl (part_at_sent sizes.unit (side_settle s).upload off sha bytes)

uploads_to_sent : (sizes : Sizes) (i : ℕ) (o : Option Side) (len : Option ℕ) (off : ℕ) (sha : Option (List ℕ)) (part : List ℕ) → CanBeSent (uploads_to sizes i o len off sha part)
uploads_to_sent sizes i None len off sha part = refl
uploads_to_sent sizes i (Some s) len off sha part = sent (off == 0) (start_of sizes i s len sha part) _ (start_of_sent sizes i s len sha part) (part_of_sent sizes i s off sha part)

uploads_sent : (sizes : Sizes) (d : AbstractDevice) (image len : Option ℕ) (off : ℕ) (sha : Option (List ℕ)) (part : List ℕ) → CanBeSent (uploads sizes d image len off sha part)
uploads_sent sizes d image len off sha part = uploads_to_sent sizes (side_of d.target image off sha) (side_at (side_of d.target image off sha) d) len off sha part

marks_on_sent : (i : ℕ) (confirm : Bool) (o : Option Side) (e : AbstractDevice) → CanBeSent (marks_on i confirm o e)
marks_on_sent i confirm None e = refl
marks_on_sent i confirm (Some s) e = go s.pending
  where
    go : (p : Option Mark) → CanBeSent (lists_with i (marks (mark_of confirm) p) e)
    go None = tt
    go (Some k) = both (same_mark k (mark_of confirm))
      where
        both : (b : Bool) → CanBeSent (lists_with i (if b then Ok [] else Err ALREADY_PENDING) e)
        both true = tt
        both false = refl

confirms_on_sent : (i : ℕ) (confirm : Bool) (o : Option Side) (e : AbstractDevice) → CanBeSent (confirms_on i confirm o e)
confirms_on_sent i confirm None e = refl
confirms_on_sent i confirm (Some s) e = go confirm s.confirmed
  where
    go : (c confirmed : Bool) → CanBeSent (lists_with i (confirms c confirmed) e)
    go true true = tt
    go true false = tt
    go false confirmed = refl

hash_sent : (hash : List ℕ) (confirm : Bool) (e : AbstractDevice) → CanBeSent (sets_hash hash confirm e)
hash_sent hash confirm e =
    sent (runs hash (side_at 0 e)) _ _ (confirms_on_sent 0 confirm (side_at 0 e) e)
    (sent (runs hash (side_at 1 e)) _ _ (confirms_on_sent 1 confirm (side_at 1 e) e)
    (sent (holds hash (side_at 0 e)) _ _ (marks_on_sent 0 confirm (side_at 0 e) e)
    (sent (holds hash (side_at 1 e)) _ (refuses_image HASH_NOT_FOUND) (marks_on_sent 1 confirm (side_at 1 e) e) refl)))

no_hash_sent : (d : AbstractDevice) (confirm : Bool) → CanBeSent (sets_no_hash d confirm)
no_hash_sent d true = confirms_on_sent 0 true (side_at 0 (settle d)) (settle d)
no_hash_sent d false = tt

set_sent : (d : AbstractDevice) (hash : Option (List ℕ)) (confirm : Bool) → CanBeSent (sets_image d hash confirm)
set_sent d None confirm = no_hash_sent d confirm
set_sent d (Some []) confirm = no_hash_sent d confirm
set_sent d (Some (x ∷ xs)) confirm = sent (length (x ∷ xs) == 32) (settling d (sets_hash (x ∷ xs) confirm)) (refuses_image INVALID_DIGEST) (hash_sent (x ∷ xs) confirm (settle d)) refl

erase_sent : (p : Option Mark) → SideCanBeSent (erase_of p)
erase_sent None = tt
erase_sent (Some m) = refl

erases_on_sent : (i : ℕ) (o : Option Side) → CanBeSent (erases_on i o)
erases_on_sent i None = refl
erases_on_sent i (Some s) = erase_sent s.pending

erases_sent : (d : AbstractDevice) (slot : ℕ) → CanBeSent (erases d slot)
erases_sent d slot = sent (slot == 1) (erases_on 0 (side_at 0 d)) _ (erases_on_sent 0 (side_at 0 d)) (sent (slot == 3) (erases_on 1 (side_at 1 d)) (refuses_image INVALID_SLOT) (erases_on_sent 1 (side_at 1 d)) refl)

-- statistics
statistics_sent : (c : Counters) (name : List ℕ) → IsOrdinary (stat_group_reply c name)
statistics_sent c name = grind arith

-- settings
abbrev AreShort : List Setting → Type 0
AreShort settings = All (λ s. length s.val ≤ 128) settings

-- what is read of a setting: a value that is short where all are, or an error
abbrev ReadsSetting : List Setting → Said → Type 0
ReadsSetting running (said.setting val) = AreShort running → length val ≤ 128
ReadsSetting running reply = IsOrdinary reply

some_setting : (s t : Setting) → Some s ≡ Some t → s ≡ t
some_setting s t e = cc

some_value : (v w : List ℕ) → Some v ≡ Some w → v ≡ w
some_value v w e = cc

-- what is found is one of them
found_holds : (p : Setting → Bool) (settings : List Setting) (s : Setting) → find p settings ≡ Some s → AreShort settings → length s.val ≤ 128
found_holds p [] s e h = cc
found_holds p (x ∷ xs) s e h = go (p x) e (λ k. found_holds p xs s k (All-tail (λ t. length t.val ≤ 128) x xs h))
  where
    go : (b : Bool) → (if b then Some x else find p xs) ≡ Some s → (find p xs ≡ Some s → length s.val ≤ 128) → length s.val ≤ 128
    go true k rest = subst (λ (t : Setting). length t.val ≤ 128) (some_setting x s k) (All-head (λ t. length t.val ≤ 128) x xs h)
    go false k rest = rest k

found_short : (name : List ℕ) (settings : List Setting) (val : List ℕ) → value_of name settings ≡ Some val → AreShort settings → length val ≤ 128
found_short name settings val e h = go (named (λ s. s.name) name settings) refl e
  where
    go : (o : Option Setting) → named (λ s. s.name) name settings ≡ o → option_map (λ s. s.val) o ≡ Some val → length val ≤ 128
    go (Some s) found k = subst (λ v. length v ≤ 128) (some_value s.val val k) (found_holds (λ t. bytes_eq t.name name) settings s found h)
    go None found k = cc

at_most_short : (size : Option ℕ) (val : List ℕ) → length val ≤ 128 → length (at_most size val) ≤ 128
at_most_short None val h = h
at_most_short (Some n) val h = omega (arith, h, length-take n val)

value_sent : (running : List Setting) (name : List ℕ) (size : Option ℕ) (o : Option (List ℕ)) → value_of name running ≡ o → ReadsSetting running (reads_value size o).reply
value_sent running name size None e = refl
value_sent running name size (Some val) e = λ h. at_most_short size val (found_short name running val e h)

reading_sent : (running : List Setting) (name : List ℕ) (size : Option ℕ) → ReadsSetting running (reads_setting running name size).reply
reading_sent running name size = go (not (is_setting_name name))
  where
    go : (b : Bool) → ReadsSetting running (if b then refuses_setting SETTING_NAME_LENGTH else reads_value size (value_of name running)).reply
    go true = refl
    go false = value_sent running name size (value_of name running) refl

writing_sent : (running : List Setting) (name val : List ℕ) → CanBeSent (writes_setting running name val)
writing_sent running name val =
    sent (not (is_setting_name name)) _ _ refl (sent (not (is_setting_value val)) _ _ refl (sent (is_full name val running) _ _ refl tt))

delete_sent : (name : List ℕ) (val : Option (List ℕ)) → CanBeSent (deletes_value name val)
delete_sent name None = refl
delete_sent name (Some val) = tt

-- files
if_file_sent : (o : Option StoredFile) (response : StoredFile → Response) → ((f : StoredFile) → CanBeSent (response f)) → CanBeSent (if_file o response)
if_file_sent None response h = refl
if_file_sent (Some f) response h = h f

about_sent : (files : List StoredFile) (name : List ℕ) (response : StoredFile → Response) → ((f : StoredFile) → CanBeSent (response f)) → CanBeSent (about_file files name response)
about_sent files name response h = sent (not (is_file_name name)) _ _ refl (if_file_sent (file_of name files) response h)

length_sent : (off : ℕ) (f : StoredFile) → IsSome (length_at off f) ↔ (off ≡ 0)
length_sent off f = go (off == 0) refl
  where
    go : (b : Bool) → (off == 0) ≡ b → IsSome (if b then Some (length f.held) else None) ↔ (off ≡ 0)
    go true e = ((λ h. grind (arith, nat_tests, e)), (λ h. refl))
    go false e = ((λ h. cc), (λ h. grind (arith, nat_tests, e, h)))

-- what is read of a file: a short part, with the length where it is the first, or an error
abbrev ReadsFile : Said → Type 0
ReadsFile (said.file_part off len part) = (IsSome len ↔ (off ≡ 0)) × (length part ≤ 1024)
ReadsFile reply = IsOrdinary reply

reading_file_sent : (files : List StoredFile) (off : ℕ) (name : List ℕ) → ReadsFile (reads_file files off name).reply
reading_file_sent files off name = named_file (not (is_file_name name))
  where
    part : (f : StoredFile) (b : Bool) → ReadsFile (if b then refuses_file PAST_FILE_END else reply_alone (said.file_part off (length_at off f) (take 1024 (drop off f.held)))).reply
    part f true = refl
    part f false = (length_sent off f, omega (arith, length-take 1024 (drop off f.held)))

    file : (o : Option StoredFile) → ReadsFile (if_file o (reads_held off)).reply
    file None = refl
    file (Some f) = part f (nat_lt (length f.held) off)

    named_file : (b : Bool) → ReadsFile (if b then refuses_file FILE_NAME_LENGTH else if_file (file_of name files) (reads_held off)).reply
    named_file true = refl
    named_file false = file (file_of name files)

hashes_sent : (kind : Option (List ℕ)) (off : ℕ) (len : Option ℕ) (f : StoredFile) → CanBeSent (hashes_held kind off len f)
hashes_sent kind off len f = sent (not (is_sha256 kind)) _ _ refl (sent (nat_lt (length f.held) off) _ _ refl tt)

begin_sent : (files : List StoredFile) (name part : List ℕ) (len : Option ℕ) → CanBeSent (begins_file files name part len)
begin_sent files name part None = tt
begin_sent files name part (Some len) =
    sent (nat_lt longest_file len) _ _ refl (sent (nat_lt len (length part)) _ _ refl (sent (is_no_free_file files name) _ _ refl tt))

continue_sent : (off : ℕ) (part : List ℕ) (f : StoredFile) → CanBeSent (continues_file off part f)
continue_sent off part f = sent (not (off == length f.held)) _ _ tt (sent (nat_lt f.announced (length f.held + length part)) _ _ refl tt)

file_sent : (files : List StoredFile) (off : ℕ) (part : List ℕ) (len : Option ℕ) (name : List ℕ) → CanBeSent (writes_file files off part len name)
file_sent files off part len name =
    sent (not (is_file_name name)) _ _ refl
    (sent (off == 0) _ _ (begin_sent files name part len) (if_file_sent (file_of name files) (continues_file off part) (continue_sent off part)))

-- the reply to each request
abbrev Answers : List Setting → Meant → Said → Type 0
Answers running (meant.echo text) reply = reply ≡ said.echo text
Answers running (meant.setting_read name size) reply = ReadsSetting running reply
Answers running (meant.file_read off name) reply = ReadsFile reply
Answers running m reply = IsOrdinary reply

replies_answer : (sizes : Sizes) (d : AbstractDevice) (m : Meant) → Answers d.running m (does sizes d m).reply
replies_answer sizes d (meant.echo text) = refl
replies_answer sizes d meant.reset = tt
replies_answer sizes d meant.parameters = tt
replies_answer sizes d meant.image_list = tt
replies_answer sizes d (meant.image_set hash confirm) = set_sent d hash confirm
replies_answer sizes d (meant.upload image len off sha part) = uploads_sent sizes d image len off sha part
replies_answer sizes d (meant.erase slot) = erases_sent d slot
replies_answer sizes d (meant.stat_group name) = statistics_sent d.counters name
replies_answer sizes d meant.stat_list = tt
replies_answer sizes d (meant.setting_read name size) = reading_sent d.running name size
replies_answer sizes d (meant.setting_write name val) = writing_sent d.running name val
replies_answer sizes d (meant.setting_delete name) = sent (not (is_setting_name name)) _ _ refl (delete_sent name (value_of name d.running))
replies_answer sizes d meant.commit = tt
replies_answer sizes d meant.load = tt
replies_answer sizes d meant.save = tt
replies_answer sizes d (meant.file_read off name) = reading_file_sent d.files off name
replies_answer sizes d (meant.file_write off part len name) = file_sent d.files off part len name
replies_answer sizes d (meant.file_status name) = about_sent d.files name _ (λ f. tt)
replies_answer sizes d (meant.file_hash name kind off len) = about_sent d.files name (hashes_held kind off len) (hashes_sent kind off len)
replies_answer sizes d meant.file_types = tt
replies_answer sizes d meant.file_close = tt

ordinary_sendable : (reply : Said) → IsOrdinary reply → IsSendable reply
ordinary_sendable (said.group_error group number) h = h
ordinary_sendable (said.echo t) h = absurd h
ordinary_sendable (said.setting val) h = absurd h
ordinary_sendable (said.file_part off len part) h = absurd h
ordinary_sendable reply h = tt

setting_sendable : (running : List Setting) (reply : Said) → ReadsSetting running reply → IsSendable reply
setting_sendable running (said.setting val) h = tt
setting_sendable running reply h = ordinary_sendable reply h

file_sendable : (reply : Said) → ReadsFile reply → IsSendable reply
file_sendable (said.file_part off len part) h = h.0
file_sendable reply h = ordinary_sendable reply h

answer_sendable : (running : List Setting) (m : Meant) (reply : Said) → Answers running m reply → IsSendable reply
answer_sendable running (meant.echo text) reply h = subst IsSendable (sym h) tt
answer_sendable running (meant.setting_read name size) reply h = setting_sendable running reply h
answer_sendable running (meant.file_read off name) reply h = file_sendable reply h
answer_sendable running m reply h = ordinary_sendable reply h

pub replies_sent : (sizes : Sizes) (d : AbstractDevice) (m : Meant) → IsSendable (does sizes d m).reply
replies_sent sizes d m = answer_sendable d.running m (does sizes d m).reply (replies_answer sizes d m)

-- what it takes
few_slots : (image : Option ℕ) (first : SlotEntry) (o : Option SlotEntry) → length (slots_of image (record { first = first; second = o })) ≤ 2
few_slots image first None = omega arith
few_slots image first (Some e) = omega arith

few_listed : (pair : SidePair) (other : Option SidePair) → length (listed pair other) ≤ 4
few_listed pair None = let few = few_slots None pair.first pair.second in omega (arith, few)
few_listed pair (Some other) =
    let few = few_slots (Some 0) pair.first pair.second in
    let more = few_slots (Some 1) other.first other.second in
    omega (arith, few, more, length-append (slots_of (Some 0) pair) (slots_of (Some 1) other))

ordinary_fits : (reply : Said) → IsOrdinary reply → room_of reply ≤ LARGEST_PACKET
ordinary_fits (said.images pair other) h = let few = few_listed pair other in omega (arith, few)
ordinary_fits (said.echo t) h = absurd h
ordinary_fits (said.setting val) h = absurd h
ordinary_fits (said.file_part off len part) h = absurd h
ordinary_fits reply h = omega arith

setting_fits : (running : List Setting) → AreShort running → (reply : Said) → ReadsSetting running reply → room_of reply ≤ LARGEST_PACKET
setting_fits running short (said.setting val) h = let few = h short in omega (arith, few)
setting_fits running short reply h = ordinary_fits reply h

file_fits : (reply : Said) → ReadsFile reply → room_of reply ≤ LARGEST_PACKET
file_fits (said.file_part off len part) h = omega (arith, h.1)
file_fits reply h = ordinary_fits reply h

answer_fits : (running : List Setting) → AreShort running → (m : Meant) (reply : Said) → EchoFits m → Answers running m reply → room_of reply ≤ LARGEST_PACKET
answer_fits running short (meant.echo text) reply echo h = subst (λ r. room_of r ≤ LARGEST_PACKET) (sym h) echo
answer_fits running short (meant.setting_read name size) reply echo h = setting_fits running short reply h
answer_fits running short (meant.file_read off name) reply echo h = file_fits reply h
answer_fits running short m reply echo h = ordinary_fits reply h

pub replies_fit : (sizes : Sizes) (d : AbstractDevice) (m : Meant) → AreShort d.running → EchoFits m → room_of (does sizes d m).reply ≤ LARGEST_PACKET
replies_fit sizes d m short echo = answer_fits d.running short m (does sizes d m).reply echo (replies_answer sizes d m)

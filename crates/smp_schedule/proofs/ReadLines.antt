-- The lines that are read are lawful, and so is the schedule.
use Rattle.std.proofs.Common.{◌≡◌, ℕ, suc, ◌+◌, ◌<◌, ◌≤◌, Bool, true, false, List, [], ◌∷◌, length, codes, Option, Some, None, Result, Ok, Err, refl, sym, ap, subst, arith}
use Rattle.std.specs.Prelude.{nat_le, nat_lt, if◌then◌else◌}
use Rattle.std.specs.Option.{ForSome, option_map, option_and_then}
use Rattle.std.specs.Str.{bytes_eq}
use Rattle.std.proofs.lemmas.Bool.Decides.{nat_tests}
use Rattle.smp_flash.specs.declared.arm.Arm.{Arm}
use Rattle.smp_flash.specs.declared.arm.ArmKind.{ArmKind}
use Rattle.smp_flash.specs.declared.arm.ArmKind.TheVariants as kinds
use Rattle.smp_flash.specs.declared.arm.Left.{Left}
use Rattle.smp_flash.specs.declared.arm.Left.TheVariants as lefts
use Rattle.smp_flash.specs.declared.geometry.Geometry.{Geometry}
use Rattle.smp_flash.specs.declared.region.Region.{Region}
use Rattle.smp_flash.specs.Geometry.{is_lawful}
use Rattle.smp_model.specs.declared.setting.Setting.{Setting}
use Rattle.smp_model.specs.declared.upload.Ending.{Ending}
use Rattle.smp_schedule.specs.declared.event.Which.{Which}
use Rattle.smp_schedule.specs.declared.event.Event.{Event}
use Rattle.smp_schedule.specs.declared.event.Event.TheVariants as events
use Rattle.smp_schedule.specs.declared.flash_line.FlashLine.{FlashLine}
use Rattle.smp_schedule.specs.declared.job.JobWords.{JobWords}
use Rattle.smp_schedule.specs.declared.job.JobWords.TheVariants as jobs
use Rattle.smp_schedule.specs.Fields.{lines_of, is_skipped, fields_of, only}
use Rattle.smp_schedule.specs.Words.{name_in, word_in, number_in, hex_in, kind_in, region_in, left_in, seed_in, ending_in}
use Rattle.smp_schedule.specs.Jobs.{chunk_in, image_in, upload_with, upload_in, list_in, value_in, setting, pair_in, with_pair, pairs_in, set_with, set_in, put_with, put_in, get_in, echo_in, job_in}
use Rattle.smp_schedule.specs.Events.{which_in, which_of, client_with, client_of, left_of, arm_left, arm_with, arm_of, boot_of, event_in, geometry, flash_line, flash_one, flash_two, flash_with, flash_of, flash_in}
use Rattle.smp_schedule.specs.Schedules.{Schedule, schedule, schedule_from, begun, under, events_from, onto_events, event_at, clients_with, clients_after}
use Rattle.smp_schedule.specs.Lawful.{IsBetween, IsField, IsName, IsWhich, ArePairs, IsJob, IsLeft, IsArm, IsEvent, AreEvents, IsSecond, IsFlash, IsLawful}
use Rattle.smp_schedule.proofs.ReadWords.{tested, passed, one_way, mapped, chained, HaveNoSpace, number_read, word_read, name_read, hex_read, value_read, which_read, fields_free, only_one}

-- Jobs.

upload_parts : (i c : Option ℕ) (e : Option Ending) (f : Option (List ℕ)) (job : JobWords) → upload_with i c e f ≡ Some job
    → (image chunk : ℕ) × (ending : Ending) × (file : List ℕ) × (i ≡ Some image) × (c ≡ Some chunk) × (f ≡ Some file) × (jobs.Upload image file chunk ending ≡ job)
upload_parts None c e f job h = absurd cc
upload_parts (Some i) None e f job h = absurd cc
upload_parts (Some i) (Some c) None f job h = absurd cc
upload_parts (Some i) (Some c) (Some e) None job h = absurd cc
upload_parts (Some i) (Some c) (Some e) (Some f) job h = (i, c, e, f, refl, refl, refl, cc)

image_read : (fields : List (List ℕ)) (image : ℕ) → image_in fields ≡ Some image → image ≤ 1
image_read [] image h = let is : 0 ≡ image = cc in omega (arith, is)
image_read (field ∷ []) image h = (number_read 1 1 field image h).1
image_read (field ∷ next ∷ fields) image h = absurd cc

upload_read : (fields : List (List ℕ)) (job : JobWords) → HaveNoSpace fields → upload_in fields ≡ Some job → IsJob job
upload_read [] job free h = absurd cc
upload_read (a ∷ []) job free h = absurd cc
upload_read (a ∷ b ∷ []) job free h = absurd cc
upload_read (file ∷ chunk ∷ ending ∷ more) job free h =
    let p = upload_parts (image_in more) (chunk_in chunk) (ending_in ending) (word_in file) job h in
    subst IsJob p.7 (image_read more p.0 p.4, word_read file p.3 free.0 p.6, number_read 32 1900 chunk p.1 p.5)

list_read : (fields : List (List ℕ)) (job : JobWords) → list_in fields ≡ Some job → IsJob job
list_read [] job h = let is : jobs.List ≡ job = cc in subst IsJob is tt
list_read (field ∷ fields) job h = absurd cc

pair_parts : (n v : Option (List ℕ)) (pair : Setting) → pair_in n v ≡ Some pair → (n ≡ Some pair.name) × (v ≡ Some pair.val)
pair_parts None v pair h = absurd cc
pair_parts (Some n) None pair h = absurd cc
pair_parts (Some n) (Some v) pair h =
    let is : setting n v ≡ pair = cc in (ap (λ (p : Setting). Some p.name) is, ap (λ (p : Setting). Some p.val) is)

one_more : (p : Option Setting) (o : Option (List Setting)) (pairs : List Setting) → with_pair p o ≡ Some pairs
    → (pair : Setting) × (others : List Setting) × (p ≡ Some pair) × (o ≡ Some others) × ((pair ∷ others) ≡ pairs)
one_more None None pairs h = absurd cc
one_more None (Some others) pairs h = absurd cc
one_more (Some p) None pairs h = absurd cc
one_more (Some p) (Some others) pairs h = (p, others, refl, refl, cc)

pairs_read : (fields : List (List ℕ)) (pairs : List Setting) → HaveNoSpace fields → pairs_in fields ≡ Some pairs → ArePairs pairs
pairs_read [] pairs free h = let is : [] ≡ pairs = cc in subst ArePairs is tt
pairs_read (name ∷ []) pairs free h = absurd cc
pairs_read (name ∷ val ∷ fields) pairs free h =
    let more = one_more (pair_in (name_in 32 name) (value_in val)) (pairs_in fields) pairs h in
    let parts = pair_parts (name_in 32 name) (value_in val) more.0 more.2 in
    subst ArePairs more.4
    ((name_read 32 name more.0.name free.0 parts.0, value_read val more.0.val parts.1), pairs_read fields more.1 free.1.1 more.3)

set_read : (pairs : List Setting) (job : JobWords) → ArePairs pairs → set_with pairs ≡ Some job → IsJob job
set_read [] job are h = absurd cc
set_read (pair ∷ pairs) job are h =
    let test = tested (nat_le (length pairs) 253) (jobs.Set (pair ∷ pairs)) job h in
    let few : length pairs ≤ 253 = let e = test.0 in grind (arith, nat_tests, e) in
    subst IsJob test.1 ((omega arith, omega (arith, few)), are)

sets_read : (fields : List (List ℕ)) (job : JobWords) → HaveNoSpace fields → set_in fields ≡ Some job → IsJob job
sets_read fields job free h =
    let c = chained set_with (pairs_in fields) job h in set_read c.0 job (pairs_read fields c.0 free c.1) c.2

put_parts : (f n : Option (List ℕ)) (job : JobWords) → put_with f n ≡ Some job → (file name : List ℕ) × (f ≡ Some file) × (n ≡ Some name) × (jobs.Put file name ≡ job)
put_parts None n job h = absurd cc
put_parts (Some f) None job h = absurd cc
put_parts (Some f) (Some n) job h = (f, n, refl, refl, cc)

put_read : (fields : List (List ℕ)) (job : JobWords) → HaveNoSpace fields → put_in fields ≡ Some job → IsJob job
put_read [] job free h = absurd cc
put_read (a ∷ []) job free h = absurd cc
put_read (file ∷ name ∷ []) job free h =
    let p = put_parts (word_in file) (name_in 64 name) job h in
    subst IsJob p.4 (word_read file p.0 free.0 p.2, name_read 64 name p.1 free.1.0 p.3)
put_read (a ∷ b ∷ c ∷ fields) job free h = absurd cc

-- the name of a job that has one word more
named : (most : ℕ) (fields : List (List ℕ)) (name : List ℕ) → HaveNoSpace fields → option_and_then (name_in most) (only fields) ≡ Some name → IsName most name
named most fields name free h =
    let c = chained (name_in most) (only fields) name h in name_read most c.0 name (only_one fields c.0 c.1 free) c.2

get_read : (fields : List (List ℕ)) (job : JobWords) → HaveNoSpace fields → get_in fields ≡ Some job → IsJob job
get_read fields job free h =
    let m = mapped jobs.Get (option_and_then (name_in 64) (only fields)) job h in subst IsJob m.2 (named 64 fields m.0 free m.1)

echo_read : (fields : List (List ℕ)) (job : JobWords) → HaveNoSpace fields → echo_in fields ≡ Some job → IsJob job
echo_read fields job free h =
    let m = mapped jobs.Echo (option_and_then (name_in 1024) (only fields)) job h in subst IsJob m.2 (named 1024 fields m.0 free m.1)

job_read : (fields : List (List ℕ)) (job : JobWords) → HaveNoSpace fields → job_in fields ≡ Some job → IsJob job
job_read [] job free h = absurd cc
job_read (word ∷ fields) job free h =
    one_way (IsJob job) (bytes_eq word (codes "upload")) _ _ job (upload_read fields job free.1)
    (one_way (IsJob job) (bytes_eq word (codes "list")) _ _ job (list_read fields job)
    (one_way (IsJob job) (bytes_eq word (codes "set")) _ _ job (sets_read fields job free.1)
    (one_way (IsJob job) (bytes_eq word (codes "put")) _ _ job (put_read fields job free.1)
    (one_way (IsJob job) (bytes_eq word (codes "get")) _ _ job (get_read fields job free.1)
    (one_way (IsJob job) (bytes_eq word (codes "echo")) _ _ job (echo_read fields job free.1) (λ k. absurd cc)))))) h

-- Events.

seed_read : (bytes : List ℕ) (o : Option ℕ) (left : Left) → number_in 0 4294967295 bytes ≡ o → seed_in o ≡ Some left → IsLeft kinds.Cut left
seed_read bytes None left e h = absurd cc
seed_read bytes (Some n) left e h = let is : lefts.Seed n ≡ left = cc in subst (IsLeft kinds.Cut) is (number_read 0 4294967295 bytes n e).1

left_read : (bytes : List ℕ) (left : Left) → left_in bytes ≡ Some left → IsLeft kinds.Cut left
left_read bytes left h =
    one_way (IsLeft kinds.Cut left) (bytes_eq bytes (codes "none")) _ _ left (λ k. let is : lefts.Nothing ≡ left = cc in subst (IsLeft kinds.Cut) is tt)
    (one_way (IsLeft kinds.Cut left) (bytes_eq bytes (codes "all")) _ _ left (λ k. let is : lefts.Whole ≡ left = cc in subst (IsLeft kinds.Cut) is tt)
    (seed_read bytes (number_in 0 4294967295 bytes) left refl)) h

failing : (left : Left) → IsLeft kinds.Cut left → IsLeft kinds.Fail left
failing (lefts.Seed n) is = is
failing lefts.Nothing is = tt
failing lefts.Whole is = tt

left_fields : (kind : ArmKind) (fields : List (List ℕ)) (left : Left) → left_of kind fields ≡ Some left → IsLeft kind left
left_fields kinds.Read [] left h = let is : lefts.Nothing ≡ left = cc in sym is
left_fields kinds.Read (field ∷ fields) left h = absurd cc
left_fields kinds.Cut fields left h = let c = chained left_in (only fields) left h in left_read c.0 left c.2
left_fields kinds.Fail fields left h = let c = chained left_in (only fields) left h in failing left (left_read c.0 left c.2)

arm_left_read : (kind : ArmKind) (region : Region) (after : ℕ) (o : Option Left) (arm : Arm) → arm_left kind region after o ≡ Some arm
    → (left : Left) × (o ≡ Some left) × (record { kind = kind; region = region; after = after; left = left } ≡ arm)
arm_left_read kind region after None arm h = absurd cc
arm_left_read kind region after (Some left) arm h = (left, refl, cc)

arm_with_read : (k : Option ArmKind) (r : Option Region) (a : Option ℕ) (fields : List (List ℕ)) (arm : Arm)
    → ((n : ℕ) → a ≡ Some n → IsBetween 1 1000000 n) → arm_with k r a fields ≡ Some arm → IsArm arm
arm_with_read None r a fields arm most h = absurd cc
arm_with_read (Some kind) None a fields arm most h = absurd cc
arm_with_read (Some kind) (Some region) None fields arm most h = absurd cc
arm_with_read (Some kind) (Some region) (Some after) fields arm most h =
    let p = arm_left_read kind region after (left_of kind fields) arm h in
    subst IsArm p.2 (most after refl, left_fields kind fields p.0 p.1)

arm_read : (fields : List (List ℕ)) (arm : Arm) → arm_of fields ≡ Some arm → IsArm arm
arm_read [] arm h = absurd cc
arm_read (a ∷ []) arm h = absurd cc
arm_read (a ∷ b ∷ []) arm h = absurd cc
arm_read (kind ∷ region ∷ after ∷ fields) arm h =
    arm_with_read (kind_in kind) (region_in region) (number_in 1 1000000 after) fields arm (λ n e. number_read 1 1000000 after n e) h

client_parts : (n : Option ℕ) (j : Option JobWords) (event : Event) → client_with n j ≡ Some event
    → (number : ℕ) × (job : JobWords) × (n ≡ Some number) × (j ≡ Some job) × (events.Client number job ≡ event)
client_parts None j event h = absurd cc
client_parts (Some n) None event h = absurd cc
client_parts (Some n) (Some j) event h = (n, j, refl, refl, cc)

client_read : (clients : ℕ) (fields : List (List ℕ)) (event : Event) → HaveNoSpace fields → client_of clients fields ≡ Some event → IsEvent clients event
client_read clients [] event free h = absurd cc
client_read clients (number ∷ fields) event free h =
    let room = passed (nat_lt clients 8) (client_with (number_in (clients + 1) (clients + 1) number) (job_in fields)) event h in
    let few : clients < 8 = let e = room.0 in grind (arith, nat_tests, e) in
    let p = client_parts (number_in (clients + 1) (clients + 1) number) (job_in fields) event room.1 in
    let next = number_read (clients + 1) (clients + 1) number p.0 p.2 in
    subst (IsEvent clients) p.4 (omega (arith, next.0, next.1), omega (arith, next.1, few), job_read fields p.1 free.1 p.3)

which_fields : (fields : List (List ℕ)) (packet : Which) → which_of fields ≡ Some packet → IsWhich packet
which_fields fields packet h = let c = chained which_in (only fields) packet h in which_read c.0 packet c.2

up_read : (clients : ℕ) (fields : List (List ℕ)) (event : Event) → option_map events.Up (which_of fields) ≡ Some event → IsEvent clients event
up_read clients fields event h = let m = mapped events.Up (which_of fields) event h in subst (IsEvent clients) m.2 (which_fields fields m.0 m.1)

down_read : (clients : ℕ) (fields : List (List ℕ)) (event : Event) → option_map events.Down (which_of fields) ≡ Some event → IsEvent clients event
down_read clients fields event h = let m = mapped events.Down (which_of fields) event h in subst (IsEvent clients) m.2 (which_fields fields m.0 m.1)

raw_read : (clients : ℕ) (fields : List (List ℕ)) (event : Event) → option_map events.Raw (option_and_then (hex_in 1 4096) (only fields)) ≡ Some event
    → IsEvent clients event
raw_read clients fields event h =
    let m = mapped events.Raw (option_and_then (hex_in 1 4096) (only fields)) event h in
    let c = chained (hex_in 1 4096) (only fields) m.0 m.1 in
    subst (IsEvent clients) m.2 (hex_read 1 4096 c.0 m.0 c.2)

quiet_read : (clients : ℕ) (fields : List (List ℕ)) (event : Event)
    → option_map events.Quiet (option_and_then (number_in 1 clients) (only fields)) ≡ Some event → IsEvent clients event
quiet_read clients fields event h =
    let m = mapped events.Quiet (option_and_then (number_in 1 clients) (only fields)) event h in
    let c = chained (number_in 1 clients) (only fields) m.0 m.1 in
    subst (IsEvent clients) m.2 (number_read 1 clients c.0 m.0 c.2)

armed_read : (clients : ℕ) (fields : List (List ℕ)) (event : Event) → option_map events.Armed (arm_of fields) ≡ Some event → IsEvent clients event
armed_read clients fields event h = let m = mapped events.Armed (arm_of fields) event h in subst (IsEvent clients) m.2 (arm_read fields m.0 m.1)

boot_read : (clients : ℕ) (fields : List (List ℕ)) (event : Event) → boot_of fields ≡ Some event → IsEvent clients event
boot_read clients [] event h = let is : events.Boot ≡ event = cc in subst (IsEvent clients) is tt
boot_read clients (field ∷ fields) event h = absurd cc

event_read : (clients : ℕ) (fields : List (List ℕ)) (event : Event) → HaveNoSpace fields → event_in clients fields ≡ Some event → IsEvent clients event
event_read clients [] event free h = absurd cc
event_read clients (word ∷ fields) event free h =
    one_way (IsEvent clients event) (bytes_eq word (codes "up")) _ _ event (up_read clients fields event)
    (one_way (IsEvent clients event) (bytes_eq word (codes "down")) _ _ event (down_read clients fields event)
    (one_way (IsEvent clients event) (bytes_eq word (codes "raw")) _ _ event (raw_read clients fields event)
    (one_way (IsEvent clients event) (bytes_eq word (codes "quiet")) _ _ event (quiet_read clients fields event)
    (one_way (IsEvent clients event) (bytes_eq word (codes "arm")) _ _ event (armed_read clients fields event)
    (one_way (IsEvent clients event) (bytes_eq word (codes "boot")) _ _ event (boot_read clients fields event)
    (one_way (IsEvent clients event) (bytes_eq word (codes "client")) _ _ event (client_read clients fields event free.1) (λ k. absurd cc))))))) h

-- Lines.

line_read : (clients count : ℕ) (line : List ℕ) (event : Event) → event_at clients count line ≡ Some event → (count < 100000) × IsEvent clients event
line_read clients count line event h =
    let room = passed (nat_lt count 100000) (event_in clients (fields_of line)) event h in
    let few : count < 100000 = let e = room.0 in grind (arith, nat_tests, e) in
    (few, event_read clients (fields_of line) event (fields_free line) room.1)

ok_others : (number : ℕ) (event : Event) (r : Result (List Event) ℕ) (es : List Event) → onto_events number (Some event) r ≡ Ok es
    → (others : List Event) × (r ≡ Ok others) × ((event ∷ others) ≡ es)
ok_others number event (Ok others) es h = (others, refl, cc)
ok_others number event (Err line) es h = absurd cc

onto_read : (number : ℕ) (o : Option Event) (rest : Option Event → Result (List Event) ℕ) (es : List Event) → onto_events number o (rest o) ≡ Ok es
    → (event : Event) × (others : List Event) × (o ≡ Some event) × (rest (Some event) ≡ Ok others) × ((event ∷ others) ≡ es)
onto_read number None rest es h = absurd cc
onto_read number (Some event) rest es h = let r = ok_others number event (rest (Some event)) es h in (event, r.0, refl, r.1, r.2)

-- What the events of lines are, behind so many others.
record AreRead (clients count : ℕ) (es : List Event) : Type 0 where
  pub are : AreEvents clients es
  pub room : count ≤ 100000 → count + length es ≤ 100000

branch : {T : Type 0} (P : Type 0) (b : Bool) (one other : Result T ℕ) (x : T) → (one ≡ Ok x → P) → (other ≡ Ok x → P) → (if b then one else other) ≡ Ok x → P
branch P true one other x first second h = first h
branch P false one other x first second h = second h

events_read : (number clients count : ℕ) (lines : List (List ℕ)) (es : List Event) → events_from number clients count lines ≡ Ok es → AreRead clients count es
events_read number clients count [] es h =
    let is : [] ≡ es = cc in subst (AreRead clients count) is (record { are = tt; room = λ r. omega (arith, r) })
events_read number clients count (line ∷ lines) es h =
    branch (AreRead clients count es) (is_skipped line) (events_from (suc number) clients count lines) _ es
    (events_read (suc number) clients count lines es)
    (λ k.
    let s = onto_read number (event_at clients count line) (λ o. events_from (suc number) (clients_with o clients) (suc count) lines) es k in
    let first = line_read clients count line s.0 s.2 in
    let later = events_read (suc number) (clients_after s.0 clients) (suc count) lines s.1 s.3 in
    subst (AreRead clients count) s.4
    (record { are = (first.1, later.are); room = λ r. let l = later.room (omega (arith, first.0)) in omega (arith, l) }))
    h

-- The flash line.

flash_line_read : (g : Geometry) (image : List ℕ) (second : Option (List ℕ)) (flash : FlashLine) → IsField image → IsSecond g.images second
    → flash_line g image second ≡ Some flash → IsFlash flash
flash_line_read g image second flash is two h =
    let test = tested (is_lawful g) (record { geometry = g; image = image; second = second }) flash h in subst IsFlash test.1 (test.0, is, two)

flash_one_read : (g : Geometry) (o : Option (List ℕ)) (flash : FlashLine) → ((word : List ℕ) → o ≡ Some word → IsField word) → g.images ≡ 1
    → flash_one g o ≡ Some flash → IsFlash flash
flash_one_read g None flash is one h = absurd cc
flash_one_read g (Some image) flash is one h = flash_line_read g image None flash (is image refl) one h

flash_two_read : (g : Geometry) (o p : Option (List ℕ)) (flash : FlashLine) → ((word : List ℕ) → o ≡ Some word → IsField word)
    → ((word : List ℕ) → p ≡ Some word → IsField word) → g.images ≡ 2 → flash_two g o p ≡ Some flash → IsFlash flash
flash_two_read g None p flash is other two h = absurd cc
flash_two_read g (Some image) None flash is other two h = absurd cc
flash_two_read g (Some image) (Some second) flash is other two h = flash_line_read g image (Some second) flash (is image refl) (two, other second refl) h

flash_with_read : (p u n : Option ℕ) (fields : List (List ℕ)) (flash : FlashLine) → HaveNoSpace fields → flash_with p u n fields ≡ Some flash → IsFlash flash
flash_with_read None u n fields flash free h = absurd cc
flash_with_read (Some p) None n fields flash free h = absurd cc
flash_with_read (Some p) (Some u) None fields flash free h = absurd cc
flash_with_read (Some p) (Some u) (Some n) [] flash free h = absurd cc
flash_with_read (Some p) (Some u) (Some n) (image ∷ []) flash free h =
    flash_one_read (geometry p u n 1) (word_in image) flash (λ word e. word_read image word free.0 e) refl h
flash_with_read (Some p) (Some u) (Some n) (image ∷ second ∷ []) flash free h =
    flash_two_read (geometry p u n 2) (word_in image) (word_in second) flash (λ word e. word_read image word free.0 e)
    (λ word e. word_read second word free.1.0 e) refl h
flash_with_read (Some p) (Some u) (Some n) (image ∷ second ∷ third ∷ fields) flash free h = absurd cc

flash_of_read : (fields : List (List ℕ)) (flash : FlashLine) → HaveNoSpace fields → flash_of fields ≡ Some flash → IsFlash flash
flash_of_read [] flash free h = absurd cc
flash_of_read (a ∷ []) flash free h = absurd cc
flash_of_read (a ∷ b ∷ []) flash free h = absurd cc
flash_of_read (page ∷ unit ∷ pages ∷ fields) flash free h =
    flash_with_read (number_in 1 4096 page) (number_in 1 8 unit) (number_in 1 1024 pages) fields flash free.1.1.1 h

flash_read : (fields : List (List ℕ)) (flash : FlashLine) → HaveNoSpace fields → flash_in fields ≡ Some flash → IsFlash flash
flash_read [] flash free h = absurd cc
flash_read (word ∷ fields) flash free h = flash_of_read fields flash free.1 (passed (bytes_eq word (codes "flash")) (flash_of fields) flash h).1

-- The schedule.

under_read : (flash : Option FlashLine) (r : Result (List Event) ℕ) (s : Schedule) → under flash r ≡ Ok s
    → (es : List Event) × (r ≡ Ok es) × (record { flash = flash; events = es } ≡ s)
under_read flash (Ok es) s h = (es, refl, cc)
under_read flash (Err line) s h = absurd cc

made : (flash : Option FlashLine) (number : ℕ) (lines : List (List ℕ)) (s : Schedule) → ForSome flash IsFlash
    → under flash (events_from number 0 0 lines) ≡ Ok s → IsLawful s
made flash number lines s is h =
    let u = under_read flash (events_from number 0 0 lines) s h in
    let read = events_read number 0 0 lines u.0 u.1 in
    subst IsLawful u.2 (record { flash = is; events = read.are; count = let r = read.room (omega arith) in omega (arith, r) })

pub no_line : ForSome None IsFlash
no_line flash e = absurd (nothing flash e)
  where
    nothing : (flash : FlashLine) → None ≡ Some flash → ⊥
    nothing flash e = cc

begun_read : (number : ℕ) (o : Option FlashLine) (line : List ℕ) (lines : List (List ℕ)) (s : Schedule) → ((flash : FlashLine) → o ≡ Some flash → IsFlash flash)
    → begun number o line lines ≡ Ok s → IsLawful s
begun_read number None line lines s is h = made None number (line ∷ lines) s no_line h
begun_read number (Some flash) line lines s is h = made (Some flash) (suc number) lines s is h

from_read : (number : ℕ) (lines : List (List ℕ)) (s : Schedule) → schedule_from number lines ≡ Ok s → IsLawful s
from_read number [] s h =
    let is : record { flash = None; events = [] } ≡ s = cc in
    subst IsLawful is (record { flash = no_line; events = tt; count = omega arith })
from_read number (line ∷ lines) s h =
    branch (IsLawful s) (is_skipped line) _ _ s (from_read (suc number) lines s)
    (begun_read number (flash_in (fields_of line)) line lines s (λ flash e. flash_read (fields_of line) flash (fields_free line) e)) h

pub read_is_lawful : (text : List ℕ) (s : Schedule) → schedule text ≡ Ok s → IsLawful s
read_is_lawful text s h = from_read 1 (lines_of text) s h

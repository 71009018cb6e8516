-- The response to an upload request, by its fields, and to an erase.
use Rattle.std.proofs.Common.{◌≡◌, ℕ, ◌-◌, ◌==◌, Bool, true, false, not, nat_lt, length, Option, Some, None, List, [], ◌∷◌, Result, Ok, Err, refl, sym, ◌∙◌, ap, subst, arith, if◌then◌else◌}
use Rattle.std.proofs.lemmas.Bool.Decides.{nat_tests}
use Rattle.std.specs.Prelude.{IfSome, IsSome, OnOk, IfOk}
use Rattle.smp_flash.specs.Area.{Told}
use Rattle.smp_flash.specs.Geometry.{slot_size}
use Rattle.smp_flash.specs.Layout.{progress_of}
use Rattle.smp_flash.specs.State.{FlashState}
use Rattle.smp_flash.specs.declared.geometry.Geometry.{Geometry}
use Rattle.smp_flash.specs.declared.layout.Layout.{Layout}
use Rattle.smp_flash.proofs.Passing.{Calls-refl}
use Rattle.smp_gate.specs.Newest.{AgesAtMost}
use Rattle.smp_model.specs.declared.device.AbstractDevice.{AbstractDevice}
use Rattle.smp_model.specs.declared.device.Side.{Side}
use Rattle.smp_model.specs.declared.device.Sizes.{Sizes}
use Rattle.smp_model.specs.declared.error.TheConstants.{NO_LENGTH, INVALID_DIGEST, IMAGE_TOO_LARGE, INVALID_HEADER, WRONG_MAGIC, INVALID_SLOT}
use Rattle.smp_model.specs.declared.reply.Reply.{Reply}
use Rattle.smp_model.specs.declared.reply.Reply.TheVariants as replied
use Rattle.smp_model.specs.declared.upload.Announcement.{Announcement}
use Rattle.smp_model.specs.declared.upload.Mark.{Mark}
use Rattle.smp_model.specs.Does.{does}
use Rattle.smp_model.specs.Errors.{IsGroupError}
use Rattle.smp_model.specs.ImageGroup.{begins_on, begins_with_magic, erase_of, erases, erases_on, has_wrong_size, part_at, part_of, refuses_image, side_of, start_at, start_of, uploads_to}
use Rattle.smp_model.specs.Meant as meant
use Rattle.smp_model.specs.Response.{Response, reply_alone, settling_side}
use Rattle.smp_model.specs.Said.{said_of}
use Rattle.smp_model.specs.Sides.{Drop, side_applied, side_settle}
use Rattle.smp_model.specs.Steps.{applied, side_at, Part}
use Rattle.smp_model.specs.Uploads.{is_spoiled}
use Rattle.smp_upload.specs.Moves.{KeepsPending}
use Rattle.smp_upload.specs.declared.states.UploadFault.{UploadFault}
use Rattle.smp_device.specs.Answers.{ImagesAnswer, IsImageReply, ImagesMove, ImagesDo, ImagesPay, ImagesTell}
use Rattle.smp_device.specs.Places.{Places, place_at, spots_of, ImagesStand, places_of, ImagesSay}
use Rattle.smp_device.specs.Requests.{responds_of, responds_on}
use Rattle.smp_device.specs.Uploads.{sizes_of, start_fault, Announces}
use Rattle.smp_device.specs.declared.images.Images.{Images}
use Rattle.smp_device.specs.declared.images.Replied.{Replied}
use Rattle.smp_device.specs.declared.images.SideRequest.{SideRequest}
use Rattle.smp_device.specs.declared.images.SideRequest.TheVariants as asks
use Rattle.smp_device.proofs.Asking.{told_here, told_alone, no_side}
use Rattle.smp_device.proofs.Lifting.{side_here}
use Rattle.smp_device.proofs.Paying.{ok_map, pays_same}
use Rattle.smp_flash.proofs.Telling.{Told-map}

-- The same response, of the devices that the bytes stand for.

abbrev pub SameFor : Places → (target : ℕ) → (AbstractDevice → Response) → (AbstractDevice → Response) → Type 0
SameFor p t first other = (d : AbstractDevice) (bytes : List ℕ) → ImagesStand p t d bytes → first d ≡ other d

moves_as : (p : Places) (t u : ℕ) (first other : AbstractDevice → Response) (old new : List ℕ) → SameFor p t first other → ImagesMove p t u first old new → ImagesMove p t u other old new
moves_as p t u first other old new same f = λ d stands. let r = f d stands in record {
  reached = r.reached;
  part = subst (λ (x : Response). Part d x.steps r.reached) (same d old stands) r.part;
  stands = r.stands;
}

does_as : (p : Places) (t u : ℕ) (first other : AbstractDevice → Response) (old new : List ℕ) → SameFor p t first other → ImagesDo p t u first old new → ImagesDo p t u other old new
does_as p t u first other old new same f = λ d stands. subst (λ (x : Response). ImagesStand p u (applied x.steps d) new) (same d old stands) (f d stands)

done_as : (p : Places) (t u : ℕ) (first other : AbstractDevice → Response) (r : Result Reply UploadFault) (x y : Option (List ℕ)) → SameFor p t first other → OnOk r (Told (ImagesDo p t u first) x y) → OnOk r (Told (ImagesDo p t u other) x y)
done_as p t u first other (Ok reply) x y same f = Told-map (ImagesDo p t u first) (ImagesDo p t u other) x y (λ v w. does_as p t u first other v w same) f
done_as p t u first other (Err fault) x y same f = tt

tells_as : (p : Places) (t : ℕ) (first other : AbstractDevice → Response) (reply : Reply) (x : Option (List ℕ)) → SameFor p t first other → ImagesTell p t first x reply → ImagesTell p t other x reply
tells_as p t first other reply None same f = tt
tells_as p t first other reply (Some u) same f = λ d stands. f d stands ∙ ap (λ (r : Response). r.reply) (same d u stands)

said_as : (p : Places) (t : ℕ) (first other : AbstractDevice → Response) (r : Result Reply UploadFault) (x : Option (List ℕ)) → SameFor p t first other → IfOk r (ImagesTell p t first x) → IfOk r (ImagesTell p t other x)
said_as p t first other (Ok reply) x same f = tells_as p t first other reply x same f
said_as p t first other (Err fault) x same f = tt

pub images_as : (p : Places) (n t : ℕ) (first other : AbstractDevice → Response) (images : Images) (r : Result Reply UploadFault) (a b : FlashState) → SameFor p t first other
    → ImagesAnswer p n t first images r a b → ImagesAnswer p n t other images r a b
images_as p n t first other images r a b same f = record {
  calls = f.calls;
  moves = Told-map (ImagesMove p t images.target first) (ImagesMove p t images.target other) a.bytes b.bytes (λ u v. moves_as p t images.target first other u v same) f.moves;
  done = done_as p t images.target first other r a.bytes b.bytes same f.done;
  said = said_as p t first other r a.bytes same f.said;
  says = f.says;
  places_kept = f.places_kept;
  ages = f.ages;
  pending = f.pending;
  caused = f.caused;
  pays = ok_map (ImagesPay p t first a b) (ImagesPay p t other a b) r
      (pays_same p t (λ d. (first d).steps) (λ d. (other d).steps) a b (told_alone (λ u. (d : AbstractDevice) → ImagesStand p t d u → (first d).steps ≡ (other d).steps) a.bytes (λ u d stands. ap (λ (x : Response). x.steps) (same d u stands)))) f.pays;
  lost = f.lost;
}

-- answered at once, and nothing changes
pub plain_here : (images : Images) (n : ℕ) (respond : AbstractDevice → Response) (reply : Reply) (a : FlashState) → SameFor (places_of images) images.target respond (λ d. reply_alone (said_of reply))
    → IfSome a.bytes (ImagesSay images) → ImagesAnswer (places_of images) n images.target respond images (Ok reply) a a
plain_here images n respond reply a same says =
    let p = places_of images in
    let t = images.target in
    images_as p n t (λ d. reply_alone (said_of reply)) respond images (Ok reply) a a (λ d bytes stands. sym (same d bytes stands)) (record {
      calls = Calls-refl (spots_of p) a;
      moves = told_here (ImagesMove p t t (λ d. reply_alone (said_of reply))) a.bytes (λ u d stands. record { reached = d; part = record { front = []; rest = []; split = refl; reached = refl }; stands = stands });
      done = told_here (ImagesDo p t t (λ d. reply_alone (said_of reply))) a.bytes (λ u d stands. stands);
      said = told_alone (λ u. (d : AbstractDevice) → ImagesStand p t d u → said_of reply ≡ said_of reply) a.bytes (λ u d stands. refl);
      says = says;
      places_kept = refl;
      ages = λ j l at. told_here (AgesAtMost n (progress_of l)) a.bytes (λ u. record { kept = omega arith; most = omega arith });
      pending = λ j l at. told_here (KeepsPending l) a.bytes (λ u. record { kept = λ is. refl; still = λ is. refl });
      caused = tt;
      pays = λ region d aim stands counted. absurd counted;
      lost = tt;
    })

pub refused_here : (images : Images) (n number : ℕ) (respond : AbstractDevice → Response) (r : Replied) (a : FlashState) → SameFor (places_of images) images.target respond (λ d. refuses_image number)
    → IfSome a.bytes (ImagesSay images) → r ≡ record { images = images; result = Ok (replied.GroupError 1 number) } → ImagesAnswer (places_of images) n images.target respond r.images r.result a a
refused_here images n number respond r a same says is =
    subst (λ (x : Replied). ImagesAnswer (places_of images) n images.target respond x.images x.result a a) (sym is) (plain_here images n respond (replied.GroupError 1 number) a same says)

-- Settling changes the upload alone.

settled_pending : (s : Side) → (side_settle s).pending ≡ s.pending
settled_pending s = by (is_spoiled s.upload)
  where
    by : (b : Bool) → (side_applied (if b then Drop ∷ [] else []) s).pending ≡ s.pending
    by true = refl
    by false = refl

-- A start, by the first fault of its fields.

abbrev start_by : Option ℕ → Response → Response
start_by (Some number) next = refuses_image number
start_by None next = next

if_by : (b : Bool) (number : ℕ) (x : Option ℕ) (next rest : Response) → rest ≡ start_by x next → (if b then refuses_image number else rest) ≡ start_by (if b then Some number else x) next
if_by true number x next rest e = refl
if_by false number x next rest e = e

abbrev begun : Sizes → (image : ℕ) → Side → (len : ℕ) (sha : Option (List ℕ)) (part : List ℕ) → Response
begun sizes i s len sha bytes = begins_on i s (start_at sizes.unit (record { length = len; digest = sha }) bytes s.pending (side_settle s).upload)

start_of_is : (sizes : Sizes) (i : ℕ) (s : Side) (len : ℕ) (sha : Option (List ℕ)) (bytes : List ℕ) → start_of sizes i s (Some len) sha bytes
    ≡ start_by (start_fault (sizes.slot - sizes.page) (Some len) sha bytes) (begun sizes i s len sha bytes)
start_of_is sizes i s len sha bytes =
    let next = begun sizes i s len sha bytes in
    let m = if not (begins_with_magic bytes) then Some WRONG_MAGIC else None in
    let h = if nat_lt (length bytes) 32 then Some INVALID_HEADER else m in
    let t = if nat_lt (sizes.slot - sizes.page) len then Some IMAGE_TOO_LARGE else h in
    if_by (has_wrong_size sha) INVALID_DIGEST t next _
    (if_by (nat_lt (sizes.slot - sizes.page) len) IMAGE_TOO_LARGE h next _
    (if_by (nat_lt (length bytes) 32) INVALID_HEADER m next _
    (if_by (not (begins_with_magic bytes)) WRONG_MAGIC None next next refl)))

start_refuses : (sizes : Sizes) (i : ℕ) (s : Side) (len : Option ℕ) (sha : Option (List ℕ)) (bytes : List ℕ) (number : ℕ) → start_fault (sizes.slot - sizes.page) len sha bytes ≡ Some number
    → start_of sizes i s len sha bytes ≡ refuses_image number
start_refuses sizes i s None sha bytes number e = ap (λ (x : Option ℕ). start_by x (refuses_image NO_LENGTH)) e
start_refuses sizes i s (Some len) sha bytes number e = start_of_is sizes i s len sha bytes ∙ ap (λ (x : Option ℕ). start_by x (begun sizes i s len sha bytes)) e

some_is : (m n : ℕ) → Some m ≡ Some n → m ≡ n
some_is m n e = cc e

start_begins : (sizes : Sizes) (i : ℕ) (s : Side) (len : Option ℕ) (sha : Option (List ℕ)) (bytes : List ℕ) (a : Announcement) → start_fault (sizes.slot - sizes.page) len sha bytes ≡ None → len ≡ Some a.length → sha ≡ a.digest
    → start_of sizes i s len sha bytes ≡ begins_on i s (start_at sizes.unit a bytes s.pending (side_settle s).upload)
start_begins sizes i s None sha bytes a e l d = absurd (cc l)
start_begins sizes i s (Some len) sha bytes a e l d =
    let m : len ≡ a.length = some_is len a.length l in
    let same : record { length = len; digest = sha } ≡ a = (λ i. record { length = m i; digest = d i }) in
    start_of_is sizes i s len sha bytes ∙ ap (λ (x : Option ℕ). start_by x (begun sizes i s len sha bytes)) e
    ∙ ap (λ (x : Announcement). begins_on i s (start_at sizes.unit x bytes s.pending (side_settle s).upload)) same

-- An upload request.

zero_test : (n : ℕ) → n ≡ 0 → (n == 0) ≡ true
zero_test n e = grind (arith, nat_tests, e)

some_test : (n : ℕ) → (n ≡ 0 → ⊥) → (n == 0) ≡ false
some_test n e = grind (arith, nat_tests, e)

-- where it is for this image
uploads_is : (sizes : Sizes) (p : Places) (t i : ℕ) (d : AbstractDevice) (bytes : List ℕ) (image len : Option ℕ) (off : ℕ) (sha : Option (List ℕ)) (part : List ℕ) → ImagesStand p t d bytes → i ≡ side_of t image off sha
    → does sizes d (meant.upload image len off sha part) ≡ uploads_to sizes i (side_at i d) len off sha part
uploads_is sizes p t i d bytes image len off sha part stands e =
    let same : side_of d.target image off sha ≡ i = ap (λ (n : ℕ). side_of n image off sha) stands.target_is ∙ sym e in
    ap (λ (n : ℕ). uploads_to sizes n (side_at n d) len off sha part) same

pub upload_elsewhere : (g : Geometry) (p : Places) (t i : ℕ) (image len : Option ℕ) (off : ℕ) (sha : Option (List ℕ)) (part : List ℕ) → i ≡ side_of t image off sha → place_at i p ≡ None
    → SameFor p t (λ d. does (sizes_of g) d (meant.upload image len off sha part)) (λ d. refuses_image 14)
upload_elsewhere g p t i image len off sha part e none = λ d bytes stands.
    uploads_is (sizes_of g) p t i d bytes image len off sha part stands e
    ∙ ap (λ (o : Option Side). uploads_to (sizes_of g) i o len off sha part) (no_side i p d bytes (place_at i p) (side_at i d) none (stands.sides i))

some_place : (o : Option Layout) → IsSome o → (l : Layout) × (o ≡ Some l)
some_place None is = absurd (cc is)
some_place (Some l) is = (l, refl)

to_side : (sizes : Sizes) (i : ℕ) (o : Option Side) (s : Side) (len : Option ℕ) (off : ℕ) (sha : Option (List ℕ)) (part : List ℕ) (b : Bool) → o ≡ Some s → (off == 0) ≡ b
    → uploads_to sizes i o len off sha part ≡ (if b then start_of sizes i s len sha part else part_of sizes i s off sha part)
to_side sizes i o s len off sha part b e f =
    ap (λ (x : Option Side). uploads_to sizes i x len off sha part) e ∙ ap (λ (c : Bool). if c then start_of sizes i s len sha part else part_of sizes i s off sha part) f

-- a start that announces wrongly
pub start_unfit : (g : Geometry) (p : Places) (t i number : ℕ) (image len : Option ℕ) (off : ℕ) (sha : Option (List ℕ)) (part : List ℕ) → i ≡ side_of t image off sha → IsSome (place_at i p) → off ≡ 0
    → start_fault (slot_size g - g.page) len sha part ≡ Some number → SameFor p t (λ d. does (sizes_of g) d (meant.upload image len off sha part)) (λ d. refuses_image number)
start_unfit g p t i number image len off sha part e there z fault = λ d bytes stands.
    let at = some_place (place_at i p) there in
    let h = side_here p t i at.0 d bytes at.1 stands in
    uploads_is (sizes_of g) p t i d bytes image len off sha part stands e
    ∙ to_side (sizes_of g) i (side_at i d) h.side len off sha part true h.found (zero_test off z)
    ∙ start_refuses (sizes_of g) i h.side len sha part number fault

-- one that announces well
start_same : (g : Geometry) (i : ℕ) (s : Side) (a : Announcement) (bytes : List ℕ)
    → begins_on i s (start_at g.unit a bytes (side_settle s).pending (side_settle s).upload) ≡ begins_on i s (start_at g.unit a bytes s.pending (side_settle s).upload)
start_same g i s a bytes = ap (λ (p : Option Mark). begins_on i s (start_at g.unit a bytes p (side_settle s).upload)) (settled_pending s)

pub start_fit : (g : Geometry) (p : Places) (t i : ℕ) (image len : Option ℕ) (off : ℕ) (sha : Option (List ℕ)) (part : List ℕ) (a : Announcement) (request : SideRequest) → i ≡ side_of t image off sha → IsSome (place_at i p) → off ≡ 0
    → Announces (slot_size g - g.page) len sha part (Ok a)
    → ((s : Side) → responds_of g.unit request i (Some s) ≡ begins_on i s (start_at g.unit a part (side_settle s).pending (side_settle s).upload))
    → SameFor p t (responds_on g.unit request i) (λ d. does (sizes_of g) d (meant.upload image len off sha part))
start_fit g p t i image len off sha part a request e there z announces is = λ d bytes stands.
    let at = some_place (place_at i p) there in
    let h = side_here p t i at.0 d bytes at.1 stands in
    let one : responds_on g.unit request i d ≡ begins_on i h.side (start_at g.unit a part (side_settle h.side).pending (side_settle h.side).upload) =
    ap (λ (o : Option Side). responds_of g.unit request i o) h.found ∙ is h.side in
    one ∙ start_same g i h.side a part
    ∙ sym (uploads_is (sizes_of g) p t i d bytes image len off sha part stands e
    ∙ to_side (sizes_of g) i (side_at i d) h.side len off sha part true h.found (zero_test off z)
    ∙ start_begins (sizes_of g) i h.side len sha part a announces.0 announces.1 announces.2)

-- a further part
pub part_unfit : (g : Geometry) (p : Places) (t i : ℕ) (image len : Option ℕ) (off : ℕ) (sha : Option (List ℕ)) (part : List ℕ) → i ≡ side_of t image off sha → IsSome (place_at i p) → (off ≡ 0 → ⊥)
    → has_wrong_size sha ≡ true → SameFor p t (λ d. does (sizes_of g) d (meant.upload image len off sha part)) (λ d. refuses_image 24)
part_unfit g p t i image len off sha part e there ne wrong = λ d bytes stands.
    let at = some_place (place_at i p) there in
    let h = side_here p t i at.0 d bytes at.1 stands in
    uploads_is (sizes_of g) p t i d bytes image len off sha part stands e
    ∙ to_side (sizes_of g) i (side_at i d) h.side len off sha part false h.found (some_test off ne)
    ∙ ap (λ (b : Bool). if b then refuses_image INVALID_DIGEST else settling_side i h.side [] (part_at g.unit off sha part (side_settle h.side).upload)) wrong

pub part_fit : (g : Geometry) (p : Places) (t i : ℕ) (image len : Option ℕ) (off : ℕ) (sha : Option (List ℕ)) (part : List ℕ) (request : SideRequest) → i ≡ side_of t image off sha → IsSome (place_at i p) → (off ≡ 0 → ⊥)
    → has_wrong_size sha ≡ false → ((s : Side) → responds_of g.unit request i (Some s) ≡ settling_side i s [] (part_at g.unit off sha part (side_settle s).upload))
    → SameFor p t (responds_on g.unit request i) (λ d. does (sizes_of g) d (meant.upload image len off sha part))
part_fit g p t i image len off sha part request e there ne right is = λ d bytes stands.
    let at = some_place (place_at i p) there in
    let h = side_here p t i at.0 d bytes at.1 stands in
    let one : responds_on g.unit request i d ≡ settling_side i h.side [] (part_at g.unit off sha part (side_settle h.side).upload) =
    ap (λ (o : Option Side). responds_of g.unit request i o) h.found ∙ is h.side in
    one ∙ sym (uploads_is (sizes_of g) p t i d bytes image len off sha part stands e
    ∙ to_side (sizes_of g) i (side_at i d) h.side len off sha part false h.found (some_test off ne)
    ∙ ap (λ (b : Bool). if b then refuses_image INVALID_DIGEST else settling_side i h.side [] (part_at g.unit off sha part (side_settle h.side).upload)) right)

-- An erase.

erase_same : (g : Geometry) (i : ℕ) (o : Option Side) → responds_of g.unit asks.Erase i o ≡ erases_on i o
erase_same g i None = refl
erase_same g i (Some s) = ap (λ (p : Option Mark). settling_side i s [] (erase_of p)) (settled_pending s)

pub erase_zero : (g : Geometry) (p : Places) (t slot : ℕ) → slot ≡ 1 → SameFor p t (responds_on g.unit asks.Erase 0) (λ d. does (sizes_of g) d (meant.erase slot))
erase_zero g p t slot e = λ d bytes stands. erase_same g 0 (side_at 0 d) ∙ sym (ap (λ (n : ℕ). erases d n) e)

pub erase_one : (g : Geometry) (p : Places) (t slot : ℕ) → slot ≡ 3 → SameFor p t (responds_on g.unit asks.Erase 1) (λ d. does (sizes_of g) d (meant.erase slot))
erase_one g p t slot e = λ d bytes stands. erase_same g 1 (side_at 1 d) ∙ sym (ap (λ (n : ℕ). erases d n) e)

pub erase_other : (g : Geometry) (p : Places) (t slot : ℕ) → (slot ≡ 1 → ⊥) → (slot ≡ 3 → ⊥) → SameFor p t (λ d. does (sizes_of g) d (meant.erase slot)) (λ d. refuses_image 14)
erase_other g p t slot a b = λ d bytes stands.
    let one : (slot == 1) ≡ false = grind (arith, nat_tests, a) in
    let three : (slot == 3) ≡ false = grind (arith, nat_tests, b) in
    ap (λ (x : Bool). if x then erases_on 0 (side_at 0 d) else if slot == 3 then erases_on 1 (side_at 1 d) else refuses_image INVALID_SLOT) one
    ∙ ap (λ (x : Bool). if x then erases_on 1 (side_at 1 d) else refuses_image INVALID_SLOT) three

-- the room that a slot has
pub room_is : (g geometry : Geometry) (size : ℕ) (len : Option ℕ) (sha : Option (List ℕ)) (part : List ℕ) (r : Result Announcement ℕ) → geometry ≡ g → size ≡ slot_size geometry → Announces (size - geometry.page) len sha part r → Announces (slot_size g - g.page) len sha part r
room_is g geometry size len sha part r e f announces =
    let same : size - geometry.page ≡ slot_size g - g.page = ap (λ (n : ℕ). n - geometry.page) f ∙ ap (λ (x : Geometry). slot_size x - x.page) e in
    subst (λ (n : ℕ). Announces n len sha part r) same announces

pub as_number : (images : Images) (r : Replied) (m n : ℕ) → m ≡ n → r ≡ record { images = images; result = Ok (replied.GroupError 1 m) } → r ≡ record { images = images; result = Ok (replied.GroupError 1 n) }
as_number images r m n e f = f ∙ ap (λ (k : ℕ). record { images = images; result = Ok (replied.GroupError 1 k) }) e

-- an error of the table may be answered
pub refused_answer : (images : Images) (number : ℕ) (r : Replied) → r ≡ record { images = images; result = Ok (replied.GroupError 1 number) } → IsGroupError 1 number → IfOk r.result (λ reply. IsImageReply (said_of reply))
refused_answer images number r e known = subst (λ (x : Replied). IfOk x.result (λ reply. IsImageReply (said_of reply))) (sym e) known

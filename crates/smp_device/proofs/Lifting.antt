-- What one image's calls do, the device does.
use Rattle.std.proofs.Common.{◌≡◌, ◌⊎◌, inl, inr, ℕ, zero, suc, ◌+◌, ◌≤◌, Bool, true, false, Option, Some, None, List, [], ◌∷◌, ◌++◌, length, ◌==◌, nat_lt, Result, Ok, Err, refl, sym, ◌∙◌, ap, subst, arith, if◌then◌else◌}
use Rattle.std.specs.Prelude.{IfSome, OnOk, IfOk, option_map}
use Rattle.smp_flash.specs.Area.{Told, Keeps}
use Rattle.smp_flash.specs.Layout.{progress_of}
use Rattle.smp_flash.specs.State.{FlashState}
use Rattle.smp_flash.specs.declared.geometry.Geometry.{Geometry}
use Rattle.smp_flash.specs.declared.layout.Layout.{Layout}
use Rattle.smp_gate.specs.Newest.{newest_generation}
use Rattle.smp_progress.specs.State.{CanTake}
use Rattle.smp_model.specs.declared.device.AbstractDevice.{AbstractDevice}
use Rattle.smp_model.specs.declared.device.Side.{Side}
use Rattle.smp_model.specs.declared.device.Upload.{Upload}
use Rattle.smp_model.specs.declared.reply.Reply.{Reply}
use Rattle.smp_model.specs.declared.reply.Reply.TheVariants as replied
use Rattle.smp_model.specs.declared.upload.Announcement.{Announcement}
use Rattle.smp_model.specs.declared.upload.Mark.{Mark}
use Rattle.smp_model.specs.ImageGroup.{is_offset, start_at, takes_part, keeps, completes, begins, new_start, resumes, refuses_part}
use Rattle.smp_model.specs.Response.{SideResponse, side_responds}
use Rattle.smp_model.specs.Said.{Said, said_of, is_error}
use Rattle.smp_model.specs.Said as said
use Rattle.smp_model.specs.Sides.{SideStep, Choose, Append, Drop, side_applied, side_settle_steps, side_settle}
use Rattle.smp_model.specs.Steps.{Step, Run, aim_at, apply, applied, on_side, side_at, with_side, Part}
use Rattle.smp_model.specs.Uploads.{differs, kept, is_resumed_by}
use Rattle.smp_upload.specs.Bytes.{SideStands, SideShows, Apart}
use Rattle.smp_upload.specs.Moves.{Moves, Does, Done, mount_spots}
use Rattle.smp_upload.specs.declared.states.UploadFault.{UploadFault}
use Rattle.smp_upload.specs.declared.states.UploadFault.TheVariants as faults
use Rattle.smp_upload.proofs.Composing.{shows_stands}
use Rattle.smp_side.specs.Held.{Caused, ResultCaused, Tells, Tried, responds_after, steps_by}
use Rattle.smp_device.specs.Answers.{ImagesMove, ImagesDo, ImagesTell, ImagesCaused, ResultCausedIn}
use Rattle.smp_device.specs.Laws.{Laws}
use Rattle.smp_device.specs.Places.{Places, ArePlaces, place_at, StandsAt, ImagesStand}
use Rattle.smp_device.specs.Requests.{side_response, between, responds_of, responds_on, target_by, moved_target}
use Rattle.smp_device.specs.declared.images.SideRequest.{SideRequest}
use Rattle.smp_device.specs.declared.images.SideRequest.TheVariants as asks
use Rattle.smp_device.proofs.Parting.{eq_or_not, apart_of}

-- The side at a place.

pub record SideHere (i : ℕ) (l : Layout) (d : AbstractDevice) (bytes : List ℕ) : Type 0 where
  pub side : Side
  pub found : side_at i d ≡ Some side
  pub stands : SideStands l side bytes

here_of : (i : ℕ) (l : Layout) (d : AbstractDevice) (bytes : List ℕ) (x : Option Layout) (y : Option Side) → x ≡ Some l → side_at i d ≡ y → StandsAt x y bytes → SideHere i l d bytes
here_of i l d bytes None y e f s = absurd (cc e)
here_of i l d bytes (Some m) None e f s = absurd s
here_of i l d bytes (Some m) (Some side) e f s = let same : m ≡ l = cc e in record { side = side; found = f; stands = subst (λ (k : Layout). SideStands k side bytes) same s }

pub side_here : (p : Places) (t i : ℕ) (l : Layout) (d : AbstractDevice) (bytes : List ℕ) → place_at i p ≡ Some l → ImagesStand p t d bytes → SideHere i l d bytes
side_here p t i l d bytes at stands = here_of i l d bytes (place_at i p) (side_at i d) at refl (stands.sides i)

kept_at : Laws → (spots : List (ℕ × ℕ)) (old new : List ℕ) (x : Option Layout) (y : Option Side) → ((m : Layout) → x ≡ Some m → Apart m spots) → Keeps spots old new → StandsAt x y old → StandsAt x y new
kept_at laws spots old new None None f k s = tt
kept_at laws spots old new None (Some side) f k s = absurd s
kept_at laws spots old new (Some m) None f k s = absurd s
kept_at laws spots old new (Some m) (Some side) f k s = laws.stand m side spots old new (f m refl) k s

-- a device that differs in one side, which stands for the new bytes
pub stands_with : Laws → (g : Geometry) (p : Places) → ArePlaces g p → (i : ℕ) (l : Layout) → place_at i p ≡ Some l → (t u : ℕ) (d e : AbstractDevice) (side : Side) (old new : List ℕ)
    → Keeps (mount_spots l) old new → ImagesStand p t d old → side_at i e ≡ Some side → ((j : ℕ) → (i ≡ j → ⊥) → side_at j e ≡ side_at j d) → e.target ≡ u → SideStands l side new → ImagesStand p u e new
stands_with laws g p are i l at t u d e side old new k stands found others target new_side = record {
  sides = λ j. elim (eq_or_not i j) [
    | inl same ↦ subst (λ (n : ℕ). StandsAt (place_at n p) (side_at n e) new) same
        (subst (λ (x : Option Layout). StandsAt x (side_at i e) new) (sym at) (subst (λ (y : Option Side). StandsAt (Some l) y new) (sym found) new_side))
    | inr other ↦ subst (λ (y : Option Side). StandsAt (place_at j p) y new) (sym (others j other))
        (kept_at laws (mount_spots l) old new (place_at j p) (side_at j d) (λ m there. apart_of g p are i j l m at there other) k (stands.sides j))
  ];
  target_is = target;
}

-- A side put in place of another.

pub with_found : (i : ℕ) (f : Side → Side) (d : AbstractDevice) (s : Side) → side_at i d ≡ Some s → side_at i (with_side i f d) ≡ Some (f s)
with_found zero f d s e = ap (option_map f) e
with_found (suc zero) f d s e = ap (option_map f) e
with_found (suc (suc n)) f d s e = absurd (cc e)

pub with_other : (i j : ℕ) (f : Side → Side) (d : AbstractDevice) → (i ≡ j → ⊥) → side_at j (with_side i f d) ≡ side_at j d
with_other zero zero f d ne = absurd (ne refl)
with_other zero (suc zero) f d ne = refl
with_other zero (suc (suc j)) f d ne = refl
with_other (suc zero) zero f d ne = refl
with_other (suc zero) (suc zero) f d ne = absurd (ne refl)
with_other (suc zero) (suc (suc j)) f d ne = refl
with_other (suc (suc i)) j f d ne = refl

pub with_target : (i : ℕ) (f : Side → Side) (d : AbstractDevice) → (with_side i f d).target ≡ d.target
with_target zero f d = refl
with_target (suc zero) f d = refl
with_target (suc (suc n)) f d = refl

pub steps_target : Laws → (i : ℕ) (steps : List SideStep) (d : AbstractDevice) (s : Side) → side_at i d ≡ Some s → (applied (on_side i steps) d).target ≡ d.target
steps_target laws i steps d s e = ap (λ (x : AbstractDevice). x.target) (laws.device i steps d s e) ∙ with_target i (λ _. side_applied steps s) d

-- What comes between changes the target alone.

aimed_side : (i j : ℕ) (d : AbstractDevice) (b : Bool) → side_at j (applied (if b then Run (aim_at i) ∷ [] else []) d) ≡ side_at j d
aimed_side i zero d true = refl
aimed_side i (suc zero) d true = refl
aimed_side i (suc (suc j)) d true = refl
aimed_side i j d false = refl

pub between_side : (request : SideRequest) (i j : ℕ) (s : Said) (d : AbstractDevice) → side_at j (applied (between request i s) d) ≡ side_at j d
between_side (asks.Start a bytes) i j s d = aimed_side i j d (is_offset s)
between_side (asks.Part off tag bytes) i j s d = refl
between_side asks.Erase i j s d = refl

-- The target afterwards.

aimed_target : (i : ℕ) (d : AbstractDevice) (b : Bool) → (applied (if b then Run (aim_at i) ∷ [] else []) d).target ≡ (if b then i else d.target)
aimed_target i d true = refl
aimed_target i d false = refl

-- the reply to a start: an offset, or an error of the group
pub record IsOffer (s : Said) : Type 0 where
  pub off : ℕ
  pub matched : Option Bool
  pub is : s ≡ said.offset off matched

pub record IsRefusal (s : Said) : Type 0 where
  pub number : ℕ
  pub is : s ≡ said.group_error 1 number

abbrev pub StartReply : Said → Type 0
StartReply s = IsOffer s ⊎ IsRefusal s

offer : (n : ℕ) (m : Option Bool) → StartReply (said.offset n m)
offer n m = inl (record { off = n; matched = m; is = refl })

refused : (n : ℕ) → StartReply (said.group_error 1 n)
refused n = inr (record { number = n; is = refl })

completes_kind : (held bytes : List ℕ) (digest : Option (List ℕ)) → StartReply (completes held bytes digest).reply
completes_kind held bytes None = offer (_) None
completes_kind held bytes (Some digest) = either (differs (Some digest) (held ++ bytes))
  where
    either : (b : Bool) → StartReply (if b then side_responds (said.offset (length held + length bytes) (Some false)) (Append bytes ∷ Drop ∷ [])
        else side_responds (said.offset (length held + length bytes) (Some true)) (Append bytes ∷ [])).reply
    either true = offer (length held + length bytes) (Some false)
    either false = offer (length held + length bytes) (Some true)

keeps_kind : (a : Announcement) (held bytes : List ℕ) → StartReply (keeps a held bytes).reply
keeps_kind a held [] = offer (length held) None
keeps_kind a held (x ∷ xs) = either (length held + length (x ∷ xs) == a.length)
  where
    either : (b : Bool) → StartReply (if b then completes held (x ∷ xs) a.digest else side_responds (said.offset (length held + length (x ∷ xs)) None) (Append (x ∷ xs) ∷ [])).reply
    either true = completes_kind held (x ∷ xs) a.digest
    either false = offer (length held + length (x ∷ xs)) None

takes_kind : (unit : ℕ) (a : Announcement) (held bytes : List ℕ) → StartReply (takes_part unit a held bytes).reply
takes_kind unit a held bytes = either (nat_lt a.length (length held + length bytes))
  where
    either : (b : Bool) → StartReply (if b then refuses_part 31 else keeps a held (kept unit a.length (length held) bytes)).reply
    either true = refused 31
    either false = keeps_kind a held (kept unit a.length (length held) bytes)

begins_kind : (unit : ℕ) (a : Announcement) (bytes : List ℕ) → StartReply (begins unit a bytes).reply
begins_kind unit a bytes = either (nat_lt a.length (length bytes))
  where
    either : (b : Bool) → StartReply (if b then refuses_part 31 else side_responds (takes_part unit a [] bytes).reply (Choose a ∷ (takes_part unit a [] bytes).steps)).reply
    either true = refused 31
    either false = takes_kind unit a [] bytes

new_kind : (unit : ℕ) (a : Announcement) (bytes : List ℕ) (p : Option Mark) → StartReply (new_start unit a bytes p).reply
new_kind unit a bytes (Some mark) = refused 9
new_kind unit a bytes None = begins_kind unit a bytes

resumes_kind : (unit : ℕ) (a : Announcement) (held bytes : List ℕ) → StartReply (resumes unit a held bytes).reply
resumes_kind unit a [] bytes = takes_kind unit a [] bytes
resumes_kind unit a (x ∷ xs) bytes = offer (length (x ∷ xs)) None

pub start_kind : (unit : ℕ) (a : Announcement) (bytes : List ℕ) (p : Option Mark) (up : Option Upload) → StartReply (start_at unit a bytes p up).reply
start_kind unit a bytes p None = new_kind unit a bytes p
start_kind unit a bytes p (Some u) = either (is_resumed_by u.announcement a)
  where
    either : (b : Bool) → StartReply (if b then resumes unit u.announcement u.accepted bytes else new_start unit a bytes p).reply
    either true = resumes_kind unit u.announcement u.accepted bytes
    either false = new_kind unit a bytes p

offer_target : (t i off : ℕ) (m : Option Bool) (reply : Reply) → said_of reply ≡ said.offset off m → i ≡ target_by t i (Ok reply)
offer_target t i off m (replied.GroupError group number) e = absurd (cc e)
offer_target t i off m reply e = refl

refusal_target : (t i n : ℕ) (reply : Reply) → said_of reply ≡ said.group_error 1 n → t ≡ target_by t i (Ok reply)
refusal_target t i n (replied.GroupError group number) e = refl
refusal_target t i n reply e = absurd (cc e)

-- what is known of the reply to a request that came to a mounted side
abbrev pub Known : Result Reply UploadFault → Said → Type 0
Known (Ok reply) s = said_of reply ≡ s
Known (Err fault) s = is_error s ≡ false

start_target : (t i : ℕ) (s : Said) (r : Result Reply UploadFault) → StartReply s → Known r s → (if is_offset s then i else t) ≡ target_by t i r
start_target t i s (Ok reply) (inl o) k = ap (λ (x : Said). if is_offset x then i else t) o.is ∙ offer_target t i o.off o.matched reply (k ∙ o.is)
start_target t i s (Ok reply) (inr f) k = ap (λ (x : Said). if is_offset x then i else t) f.is ∙ refusal_target t i f.number reply (k ∙ f.is)
start_target t i s (Err fault) (inl o) k = ap (λ (x : Said). if is_offset x then i else t) o.is
start_target t i s (Err fault) (inr f) k = absurd (cc (sym (ap is_error f.is) ∙ k))

pub target_fits : (unit : ℕ) (request : SideRequest) (side : Side) (t i : ℕ) (r : Result Reply UploadFault) (d : AbstractDevice) → Known r (side_response unit request side).reply → d.target ≡ t
    → (applied (between request i (side_response unit request side).reply) d).target ≡ moved_target t i request r
target_fits unit (asks.Start a bytes) side t i r d k e =
    let s = (start_at unit a bytes.now side.pending side.upload).reply in
    aimed_target i d (is_offset s) ∙ ap (λ (x : ℕ). if is_offset s then i else x) e ∙ start_target t i s r (start_kind unit a bytes.now side.pending side.upload) k
target_fits unit (asks.Part off tag bytes) side t i r d k e = e
target_fits unit asks.Erase side t i r d k e = e

pub applied_append : (s t : List Step) (d : AbstractDevice) → applied (s ++ t) d ≡ applied t (applied s d)
applied_append [] t d = refl
applied_append (x ∷ s) t d = applied_append s t (apply x d)

-- One image's call, lifted.

-- what the request comes to, of the side that is found
abbrev pub settled_response : (unit : ℕ) → SideRequest → Side → SideResponse
settled_response unit request side = side_response unit request (side_settle side)

pub moves_one : Laws → (g : Geometry) (p : Places) → ArePlaces g p → (unit : ℕ) (request : SideRequest) (i : ℕ) (l : Layout) → place_at i p ≡ Some l → (t : ℕ) (r : Result Reply UploadFault) (old middle new : List ℕ)
    → Does l side_settle_steps old middle → Moves l (steps_by (side_response unit request)) middle new → Keeps (mount_spots l) old new
    → ((side : Side) → SideStands l side old → Known r (settled_response unit request side).reply)
    → ImagesMove p t (moved_target t i request r) (responds_on unit request i) old new
moves_one laws g p are unit request i l at t r old middle new does moves keeps known = λ d stands.
    let h = side_here p t i l d old at stands in
    let side = h.side in
    let x = side_settle_steps side in
    let settled = side_applied x side in
    let answer = side_response unit request settled in
    let m = moves.moves settled (shows_stands l settled middle (does.does side h.stands)) in
    let dx = applied (on_side i x) d in
    let z = between request i answer.reply in
    let dz = applied z dx in
    let fx : side_at i dx ≡ Some settled = laws.found i x d side h.found in
    let fz : side_at i dz ≡ Some settled = between_side request i i answer.reply dx ∙ fx in
    let e = with_side i (λ _. m.reached) dz in
    let part : Part d (on_side i x ++ (z ++ on_side i answer.steps)) e =
    laws.behind (on_side i x) (z ++ on_side i answer.steps) d e (laws.behind z (on_side i answer.steps) dx e (laws.part i answer.steps dz settled m.reached fz m.part)) in
    record {
      reached = e;
      part = subst (λ (o : Option Side). Part d (responds_of unit request i o).steps e) (sym h.found) part;
      stands = stands_with laws g p are i l at t (moved_target t i request r) d e m.reached old new keeps stands
          (with_found i (λ _. m.reached) dz settled fz)
          (λ j other. with_other i j (λ _. m.reached) dz other ∙ between_side request i j answer.reply dx ∙ laws.others i j x d other)
          (with_target i (λ _. m.reached) dz ∙ target_fits unit request settled t i r dx (known side h.stands) (steps_target laws i x d side h.found ∙ stands.target_is))
          m.stands;
    }

does_one : Laws → (g : Geometry) (p : Places) → ArePlaces g p → (unit : ℕ) (request : SideRequest) (i : ℕ) (l : Layout) → place_at i p ≡ Some l → (t : ℕ) (r : Result Reply UploadFault) (old middle new : List ℕ)
    → Does l side_settle_steps old middle → Does l (steps_by (side_response unit request)) middle new → Keeps (mount_spots l) old new
    → ((side : Side) → SideStands l side old → Known r (settled_response unit request side).reply)
    → ImagesDo p t (moved_target t i request r) (responds_on unit request i) old new
does_one laws g p are unit request i l at t r old middle new does then_does keeps known = λ d stands.
    let h = side_here p t i l d old at stands in
    let side = h.side in
    let x = side_settle_steps side in
    let settled = side_applied x side in
    let answer = side_response unit request settled in
    let last = side_applied answer.steps settled in
    let shown : SideShows l last new = then_does.does settled (shows_stands l settled middle (does.does side h.stands)) in
    let dx = applied (on_side i x) d in
    let z = between request i answer.reply in
    let dz = applied z dx in
    let fx : side_at i dx ≡ Some settled = laws.found i x d side h.found in
    let fz : side_at i dz ≡ Some settled = between_side request i i answer.reply dx ∙ fx in
    let e = applied (on_side i answer.steps) dz in
    let same : applied (on_side i x ++ (z ++ on_side i answer.steps)) d ≡ e =
    applied_append (on_side i x) (z ++ on_side i answer.steps) d ∙ applied_append z (on_side i answer.steps) dx in
    let here : ImagesStand p (moved_target t i request r) e new =
    stands_with laws g p are i l at t (moved_target t i request r) d e last old new keeps stands
    (laws.found i answer.steps dz settled fz)
    (λ j other. laws.others i j answer.steps dz other ∙ between_side request i j answer.reply dx ∙ laws.others i j x d other)
    (steps_target laws i answer.steps dz settled fz ∙ target_fits unit request settled t i r dx (known side h.stands) (steps_target laws i x d side h.found ∙ stands.target_is))
    (shows_stands l last new shown) in
    let there : ImagesStand p (moved_target t i request r) (applied (on_side i x ++ (z ++ on_side i answer.steps)) d) new = subst (λ (k : AbstractDevice). ImagesStand p (moved_target t i request r) k new) (sym same) here in
    subst (λ (o : Option Side). ImagesStand p (moved_target t i request r) (applied (responds_of unit request i o).steps d) new) (sym h.found) there

-- a mount alone: some first steps of settling
pub mounts_one : Laws → (g : Geometry) (p : Places) → ArePlaces g p → (unit : ℕ) (request : SideRequest) (i : ℕ) (l : Layout) → place_at i p ≡ Some l → (t : ℕ) (old new : List ℕ)
    → Moves l side_settle_steps old new → Keeps (mount_spots l) old new → ImagesMove p t t (responds_on unit request i) old new
mounts_one laws g p are unit request i l at t old new moves keeps = λ d stands.
    let h = side_here p t i l d old at stands in
    let side = h.side in
    let x = side_settle_steps side in
    let settled = side_applied x side in
    let answer = side_response unit request settled in
    let z = between request i answer.reply in
    let m = moves.moves side h.stands in
    let e = with_side i (λ _. m.reached) d in
    let part : Part d (on_side i x ++ (z ++ on_side i answer.steps)) e = laws.front (on_side i x) (z ++ on_side i answer.steps) d e (laws.part i x d side m.reached h.found m.part) in
    record {
      reached = e;
      part = subst (λ (o : Option Side). Part d (responds_of unit request i o).steps e) (sym h.found) part;
      stands = stands_with laws g p are i l at t t d e m.reached old new keeps stands (with_found i (λ _. m.reached) d side h.found)
          (λ j other. with_other i j (λ _. m.reached) d other) (with_target i (λ _. m.reached) d ∙ stands.target_is) m.stands;
    }

-- as far as the bytes are told

pub told_moves : (R S T K : List ℕ → List ℕ → Type 0) (P : List ℕ → Type 0) (x y z : Option (List ℕ)) → ((u v w : List ℕ) → R u v → S v w → K u w → P u → T u w) → Told R x y → Told S y z → Told K x z → IfSome x P → Told T x z
told_moves R S T K P None None None f a b k q = tt
told_moves R S T K P None None (Some w) f a b k q = absurd b
told_moves R S T K P None (Some v) z f a b k q = absurd a
told_moves R S T K P (Some u) None z f a b k q = absurd a
told_moves R S T K P (Some u) (Some v) None f a b k q = absurd b
told_moves R S T K P (Some u) (Some v) (Some w) f a b k q = f u v w a b k q

pub told_two : (R K T : List ℕ → List ℕ → Type 0) (x y : Option (List ℕ)) → ((u v : List ℕ) → R u v → K u v → T u v) → Told R x y → Told K x y → Told T x y
told_two R K T None None f a b = tt
told_two R K T None (Some v) f a b = absurd a
told_two R K T (Some u) None f a b = absurd a
told_two R K T (Some u) (Some v) f a b = f u v a b

-- the reply is known, or that it is no error
pub known_by : (l : Layout) (respond : Side → SideResponse) (r : Result Reply UploadFault) (x : Option (List ℕ)) → IfOk r (Tells l (responds_after side_settle_steps respond) x) → Tried l (responds_after side_settle_steps respond) r x
    → IfSome x (λ u. (side : Side) → SideStands l side u → Known r (respond (side_settle side)).reply)
known_by l respond (Ok reply) x s t = s
known_by l respond (Err fault) x s t = t

tells_one : (p : Places) (unit : ℕ) (request : SideRequest) (i : ℕ) (l : Layout) (t : ℕ) (reply : Reply) (x : Option (List ℕ)) → place_at i p ≡ Some l
    → Tells l (responds_after side_settle_steps (side_response unit request)) x reply → ImagesTell p t (responds_on unit request i) x reply
tells_one p unit request i l t reply None at s = tt
tells_one p unit request i l t reply (Some u) at s = λ d stands.
    let h = side_here p t i l d u at stands in
    s h.side h.stands ∙ ap (λ (o : Option Side). (responds_of unit request i o).reply) (sym h.found)

pub said_one : (p : Places) (unit : ℕ) (request : SideRequest) (i : ℕ) (l : Layout) (t : ℕ) (r : Result Reply UploadFault) (x : Option (List ℕ)) → place_at i p ≡ Some l
    → IfOk r (Tells l (responds_after side_settle_steps (side_response unit request)) x) → IfOk r (ImagesTell p t (responds_on unit request i) x)
said_one p unit request i l t (Ok reply) x at s = tells_one p unit request i l t reply x at s
said_one p unit request i l t (Err fault) x at s = tt

pub caused_one : (p : Places) (i : ℕ) (l : Layout) (n : ℕ) (fault : UploadFault) (x : Option (List ℕ)) → place_at i p ≡ Some l → Caused l n fault x → ImagesCaused p n fault x
caused_one p i l n faults.Unformatted x at c = c
caused_one p i l n faults.Worn x at c = record { image = i; layout = l; place = at; worn = c }
caused_one p i l n (faults.Fault operation) x at c = tt
caused_one p i l n faults.Off x at c = tt

pub result_one : (p : Places) (i : ℕ) (l : Layout) (n : ℕ) (r : Result Reply UploadFault) (x : Option (List ℕ)) → place_at i p ≡ Some l → ResultCaused l n r x → ResultCausedIn p n r x
result_one p i l n (Ok reply) x at c = tt
result_one p i l n (Err fault) x at c = caused_one p i l n fault x at c

pub does_ok : Laws → (g : Geometry) (p : Places) → ArePlaces g p → (unit : ℕ) (request : SideRequest) (i : ℕ) (l : Layout) → place_at i p ≡ Some l → (t : ℕ) (r : Result Reply UploadFault) (a b c : FlashState)
    → Told (Does l side_settle_steps) a.bytes b.bytes → OnOk r (Done l (mount_spots l) 3 (steps_by (side_response unit request)) b c) → Told (Keeps (mount_spots l)) a.bytes c.bytes
    → IfSome a.bytes (λ u. (side : Side) → SideStands l side u → Known r (settled_response unit request side).reply)
    → OnOk r (Told (ImagesDo p t (moved_target t i request r) (responds_on unit request i)) a.bytes c.bytes)
does_ok laws g p are unit request i l at t (Err fault) a b c f h k q = tt
does_ok laws g p are unit request i l at t (Ok reply) a b c f h k q =
    told_moves (Does l side_settle_steps) (Does l (steps_by (side_response unit request))) (ImagesDo p t (moved_target t i request (Ok reply)) (responds_on unit request i)) (Keeps (mount_spots l))
    (λ u. (side : Side) → SideStands l side u → Known (Ok reply) (settled_response unit request side).reply) a.bytes b.bytes c.bytes
    (λ u v w. does_one laws g p are unit request i l at t (Ok reply) u v w) f h.does k q

-- a longer bound

pub worn_more : (l : Layout) (m n : ℕ) (x : Option (List ℕ)) → m ≤ n → IfSome x (λ held. CanTake (newest_generation (progress_of l) held) m → ⊥) → IfSome x (λ held. CanTake (newest_generation (progress_of l) held) n → ⊥)
worn_more l m n None le w = tt
worn_more l m n (Some u) le w = λ take. w (omega arith)

pub caused_more : (l : Layout) (m n : ℕ) (fault : UploadFault) (x : Option (List ℕ)) → m ≤ n → Caused l m fault x → Caused l n fault x
caused_more l m n faults.Unformatted x le c = c
caused_more l m n faults.Worn x le c = worn_more l m n x le c
caused_more l m n (faults.Fault operation) x le c = tt
caused_more l m n faults.Off x le c = tt

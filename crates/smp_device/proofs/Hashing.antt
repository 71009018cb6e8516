-- The image that a hash means.
use Rattle.std.proofs.Common.{◌≡◌, ℕ, Bool, true, false, Option, Some, None, List, [], ◌∷◌, Result, Ok, Err, refl, sym, ◌∙◌, ap, subst, arith, length, ◌<◌, ◌==◌, if◌then◌else◌}
use Rattle.std.proofs.lemmas.Bool.Decides.{nat_tests}
use Rattle.std.specs.Prelude.{IfSome, IsSome, OnOk, IfOk}
use Rattle.smp_flash.specs.Area.{Told}
use Rattle.smp_flash.specs.Calls.{Calls}
use Rattle.smp_flash.specs.Layout.{area_spot, progress_of, slot_of}
use Rattle.smp_flash.specs.State.{FlashState, fault_end}
use Rattle.smp_flash.specs.State.End.{Went}
use Rattle.smp_flash.specs.declared.flash.CallFault.{CallFault}
use Rattle.smp_flash.specs.declared.layout.Layout.{Layout}
use Rattle.smp_flash.proofs.Passing.{Calls-after}
use Rattle.smp_gate.specs.Newest.{AgesAtMost}
use Rattle.smp_model.specs.declared.device.AbstractDevice.{AbstractDevice}
use Rattle.smp_model.specs.declared.device.Side.{Side}
use Rattle.smp_model.specs.declared.image.ImageInfo.{ImageInfo}
use Rattle.smp_model.specs.declared.reply.Reply.{Reply}
use Rattle.smp_model.specs.declared.reply.Reply.TheVariants as replied
use Rattle.smp_model.specs.declared.upload.Mark.{Mark}
use Rattle.smp_model.specs.ImageGroup.{confirms_on, has_hash, holds, mark_of, marks_on, refuses_image, runs, sets_hash, sets_image, sets_no_hash}
use Rattle.smp_model.specs.Response.{Response, reply_alone, settling}
use Rattle.smp_model.specs.Said.{said_of}
use Rattle.smp_model.specs.Steps.{applied, side_at, Part}
use Rattle.smp_upload.specs.Faults.{of_call}
use Rattle.smp_upload.specs.Moves.{KeepsPending}
use Rattle.smp_upload.specs.States.{Knows, Says, known_mounted}
use Rattle.smp_upload.specs.declared.states.Mounted.{Mounted}
use Rattle.smp_upload.specs.declared.states.UploadFault.{UploadFault}
use Rattle.smp_upload.proofs.Sides.{OneSide, says_knows}
use Rattle.smp_side.specs.Held.{held_layout, result_end}
use Rattle.smp_side.specs.declared.held.Held.{Held}
use Rattle.smp_side.specs.declared.held.Held.TheVariants as helds
use Rattle.smp_device.specs.Answers.{ImagesAnswer, ImagesMove, ImagesDo, ImagesPay, ImagesTell, ResultCausedIn}
use Rattle.smp_device.specs.Places.{Places, place_at, spots_of, ImagesStand, ImagesSay}
use Rattle.smp_device.specs.Setting.{RunsIs, acts_of, acts_on}
use Rattle.smp_device.specs.Settling.{SettledSay, alone_places, alone_settled, both_places, both_settled, settled_places, unknown_at}
use Rattle.smp_device.specs.declared.images.Images.{Images}
use Rattle.smp_device.specs.declared.images.Replied.{Replied}
use Rattle.smp_device.specs.declared.settled.Settled.{Settled}
use Rattle.smp_device.specs.declared.sets.Act.{Act}
use Rattle.smp_device.specs.declared.sets.Act.TheVariants as acts
use Rattle.smp_device.proofs.Asking.{no_side}
use Rattle.smp_device.proofs.Fields.{SameFor}
use Rattle.smp_device.proofs.Falling.{lost_read}
use Rattle.smp_device.proofs.Lifting.{side_here}
use Rattle.smp_device.proofs.Paying.{ok_map, pays_behind, pays_same}
use Rattle.smp_device.proofs.Listings.{calls_at, quiet, quiet_broken, read_fell, read_fell_then, unknown_is, unknown_says, unknown_unmounted, both_some}
use Rattle.smp_flash.proofs.Telling.{IfSome-map}

-- Behind a read that changed no byte.

pub read_then : (p : Places) (n t : ℕ) (respond : AbstractDevice → Response) (images : Images) (r : Result Reply UploadFault) (a b c : FlashState) → Calls (spots_of p) Went a b → b.bytes ≡ a.bytes
    → ImagesAnswer p n t respond images r b c → ImagesAnswer p n t respond images r a c
read_then p n t respond images r a b c calls kept f = record {
  calls = Calls-after (spots_of p) (result_end r) a b c calls f.calls;
  moves = subst (λ (x : Option (List ℕ)). Told (ImagesMove p t images.target respond) x c.bytes) kept f.moves;
  done = subst (λ (x : Option (List ℕ)). OnOk r (Told (ImagesDo p t images.target respond) x c.bytes)) kept f.done;
  said = subst (λ (x : Option (List ℕ)). IfOk r (ImagesTell p t respond x)) kept f.said;
  says = f.says;
  places_kept = f.places_kept;
  ages = λ i l at. subst (λ (x : Option (List ℕ)). Told (AgesAtMost n (progress_of l)) x c.bytes) kept (f.ages i l at);
  pending = λ i l at. subst (λ (x : Option (List ℕ)). Told (KeepsPending l) x c.bytes) kept (f.pending i l at);
  caused = subst (λ (x : Option (List ℕ)). ResultCausedIn p n r x) kept f.caused;
  pays = ok_map (ImagesPay p t respond b c) (ImagesPay p t respond a c) r (pays_behind p t (λ d. (respond d).steps) a b c calls.passes kept) f.pays;
  lost = lost_read p n images r a b c calls.passes kept f.lost;
}

-- The same response, of the devices that these bytes stand for.

abbrev pub SameHere : Places → (target : ℕ) → (AbstractDevice → Response) → (AbstractDevice → Response) → List ℕ → Type 0
SameHere p t first other u = (d : AbstractDevice) → ImagesStand p t d u → first d ≡ other d

told_with : (R S : List ℕ → List ℕ → Type 0) (P : List ℕ → Type 0) (x y : Option (List ℕ)) → ((u v : List ℕ) → P u → R u v → S u v) → IfSome x P → Told R x y → Told S x y
told_with R S P None None f p a = tt
told_with R S P None (Some v) f p a = absurd a
told_with R S P (Some u) None f p a = absurd a
told_with R S P (Some u) (Some v) f p a = f u v p a

done_here : (p : Places) (t u : ℕ) (first other : AbstractDevice → Response) (r : Result Reply UploadFault) (x y : Option (List ℕ)) → IfSome x (SameHere p t first other) → OnOk r (Told (ImagesDo p t u first) x y) → OnOk r (Told (ImagesDo p t u other) x y)
done_here p t u first other (Ok reply) x y same f = told_with (ImagesDo p t u first) (ImagesDo p t u other) (SameHere p t first other) x y
    (λ v w e g d stands. subst (λ (k : Response). ImagesStand p u (applied k.steps d) w) (e d stands) (g d stands)) same f
done_here p t u first other (Err fault) x y same f = tt

said_here : (p : Places) (t : ℕ) (first other : AbstractDevice → Response) (r : Result Reply UploadFault) (x : Option (List ℕ)) → IfSome x (SameHere p t first other) → IfOk r (ImagesTell p t first x) → IfOk r (ImagesTell p t other x)
said_here p t first other (Ok reply) None same f = tt
said_here p t first other (Ok reply) (Some u) same f = λ d stands. f d stands ∙ ap (λ (k : Response). k.reply) (same d stands)
said_here p t first other (Err fault) x same f = tt

pub images_here : (p : Places) (n t : ℕ) (first other : AbstractDevice → Response) (images : Images) (r : Result Reply UploadFault) (a b : FlashState) → IfSome a.bytes (SameHere p t first other)
    → ImagesAnswer p n t first images r a b → ImagesAnswer p n t other images r a b
images_here p n t first other images r a b same f = record {
  calls = f.calls;
  moves = told_with (ImagesMove p t images.target first) (ImagesMove p t images.target other) (SameHere p t first other) a.bytes b.bytes
      (λ v w e g d stands. let k = g d stands in record { reached = k.reached; part = subst (λ (x : Response). Part d x.steps k.reached) (e d stands) k.part; stands = k.stands }) same f.moves;
  done = done_here p t images.target first other r a.bytes b.bytes same f.done;
  said = said_here p t first other r a.bytes same f.said;
  says = f.says;
  places_kept = f.places_kept;
  ages = f.ages;
  pending = f.pending;
  caused = f.caused;
  pays = ok_map (ImagesPay p t first a b) (ImagesPay p t other a b) r
      (pays_same p t (λ d. (first d).steps) (λ d. (other d).steps) a b (IfSome-map (SameHere p t first other) (λ u. (d : AbstractDevice) → ImagesStand p t d u → (first d).steps ≡ (other d).steps) a.bytes (λ u e d stands. ap (λ (x : Response). x.steps) (e d stands)) same)) f.pays;
  lost = f.lost;
}

-- What a hash means, by what is found of each image.

abbrev pub RunsAt : Places → (t i : ℕ) → (hash : List ℕ) → Bool → List ℕ → Type 0
RunsAt p t i hash b u = (d : AbstractDevice) → ImagesStand p t d u → runs hash (side_at i d) ≡ b

abbrev pub HoldsAt : Places → (t i : ℕ) → (hash : List ℕ) → Bool → List ℕ → Type 0
HoldsAt p t i hash b u = (d : AbstractDevice) → ImagesStand p t d u → holds hash (side_at i d) ≡ b

runs_there : (p : Places) (t i : ℕ) (l : Layout) (hash : List ℕ) (b : Bool) (u : List ℕ) → place_at i p ≡ Some l → RunsIs l hash b u → RunsAt p t i hash b u
runs_there p t i l hash b u at f = λ d stands. let h = side_here p t i l d u at stands in ap (runs hash) h.found ∙ f h.side h.stands

holds_there : OneSide → (p : Places) (t i : ℕ) (m : Mounted) (hash : List ℕ) (b : Bool) (u : List ℕ) → place_at i p ≡ Some (known_mounted m).layout → b ≡ has_hash hash (known_mounted m).image → Says (known_mounted m) u → HoldsAt p t i hash b u
holds_there one p t i m hash b u at e says = λ d stands.
    let h = side_here p t i (known_mounted m).layout d u at stands in
    let k : Knows (known_mounted m) h.side = says_knows one (known_mounted m) h.side u says h.stands in
    ap (holds hash) h.found ∙ ap (has_hash hash) (sym k.image) ∙ sym e

runs_none : (p : Places) (t : ℕ) (hash u : List ℕ) → p.second ≡ None → RunsAt p t 1 hash false u
runs_none p t hash u none = λ d stands. ap (runs hash) (no_side 1 p d u p.second (side_at 1 d) none (stands.sides 1))

holds_none : (p : Places) (t : ℕ) (hash u : List ℕ) → p.second ≡ None → HoldsAt p t 1 hash false u
holds_none p t hash u none = λ d stands. ap (holds hash) (no_side 1 p d u p.second (side_at 1 d) none (stands.sides 1))

-- the response, by the four answers
sets_by : (hash : List ℕ) (confirm : Bool) (d : AbstractDevice) (a b c e : Bool) → runs hash (side_at 0 d) ≡ a → runs hash (side_at 1 d) ≡ b → holds hash (side_at 0 d) ≡ c → holds hash (side_at 1 d) ≡ e
    → sets_hash hash confirm d ≡ (if a then confirms_on 0 confirm (side_at 0 d) d else if b then confirms_on 1 confirm (side_at 1 d) d
    else if c then marks_on 0 confirm (side_at 0 d) d else if e then marks_on 1 confirm (side_at 1 d) d else refuses_image 8)
sets_by hash confirm d a b c e p q r s = λ i. if p i then confirms_on 0 confirm (side_at 0 d) d else if q i then confirms_on 1 confirm (side_at 1 d) d
    else if r i then marks_on 0 confirm (side_at 0 d) d else if s i then marks_on 1 confirm (side_at 1 d) d else refuses_image 8

confirms_is : (i : ℕ) (confirm : Bool) (o : Option Side) (d : AbstractDevice) → acts_of (acts.Confirm confirm) i o d ≡ confirms_on i confirm o d
confirms_is i confirm None d = refl
confirms_is i confirm (Some s) d = refl

marks_is : (i : ℕ) (confirm : Bool) (o : Option Side) (d : AbstractDevice) → acts_of (acts.Mark (mark_of confirm)) i o d ≡ marks_on i confirm o d
marks_is i confirm None d = refl
marks_is i confirm (Some s) d = refl

first_runs : (p : Places) (t : ℕ) (hash : List ℕ) (confirm : Bool) (u : List ℕ) → RunsAt p t 0 hash true u → SameHere p t (acts_on (acts.Confirm confirm) 0) (sets_hash hash confirm) u
first_runs p t hash confirm u a = λ d stands.
    confirms_is 0 confirm (side_at 0 d) d ∙ sym (sets_by hash confirm d true (runs hash (side_at 1 d)) (holds hash (side_at 0 d)) (holds hash (side_at 1 d)) (a d stands) refl refl refl)

second_runs : (p : Places) (t : ℕ) (hash : List ℕ) (confirm : Bool) (u : List ℕ) → RunsAt p t 0 hash false u → RunsAt p t 1 hash true u → SameHere p t (acts_on (acts.Confirm confirm) 1) (sets_hash hash confirm) u
second_runs p t hash confirm u a b = λ d stands.
    confirms_is 1 confirm (side_at 1 d) d ∙ sym (sets_by hash confirm d false true (holds hash (side_at 0 d)) (holds hash (side_at 1 d)) (a d stands) (b d stands) refl refl)

first_holds : (p : Places) (t : ℕ) (hash : List ℕ) (confirm : Bool) (mark : Mark) (u : List ℕ) → mark ≡ mark_of confirm → RunsAt p t 0 hash false u → RunsAt p t 1 hash false u → HoldsAt p t 0 hash true u → SameHere p t (acts_on (acts.Mark mark) 0) (sets_hash hash confirm) u
first_holds p t hash confirm mark u is a b c = λ d stands.
    ap (λ (k : Mark). acts_on (acts.Mark k) 0 d) is ∙ marks_is 0 confirm (side_at 0 d) d ∙ sym (sets_by hash confirm d false false true (holds hash (side_at 1 d)) (a d stands) (b d stands) (c d stands) refl)

second_holds : (p : Places) (t : ℕ) (hash : List ℕ) (confirm : Bool) (mark : Mark) (u : List ℕ) → mark ≡ mark_of confirm → RunsAt p t 0 hash false u → RunsAt p t 1 hash false u → HoldsAt p t 0 hash false u → HoldsAt p t 1 hash true u → SameHere p t (acts_on (acts.Mark mark) 1) (sets_hash hash confirm) u
second_holds p t hash confirm mark u is a b c e = λ d stands.
    ap (λ (k : Mark). acts_on (acts.Mark k) 1 d) is ∙ marks_is 1 confirm (side_at 1 d) d ∙ sym (sets_by hash confirm d false false false true (a d stands) (b d stands) (c d stands) (e d stands))

none_has : (p : Places) (t : ℕ) (hash : List ℕ) (confirm : Bool) (u : List ℕ) → RunsAt p t 0 hash false u → RunsAt p t 1 hash false u → HoldsAt p t 0 hash false u → HoldsAt p t 1 hash false u → SameHere p t (λ d. refuses_image 8) (sets_hash hash confirm) u
none_has p t hash confirm u a b c e = λ d stands. sym (sets_by hash confirm d false false false false (a d stands) (b d stands) (c d stands) (e d stands))

-- a side that holds the hash holds an image
pub hash_image : (hash : List ℕ) (o : Option ImageInfo) (b : Bool) → b ≡ has_hash hash o → b ≡ true → IsSome o
hash_image hash None b e f = absurd (cc (sym e ∙ f))
hash_image hash (Some i) b e f = refl

-- what was answered about all images, as they are known
pub as_settled : (respond : AbstractDevice → Response) (s known : Settled) (r : Replied) (a b : FlashState) → s ≡ known → ImagesAnswer (settled_places s) 0 s.target respond r.images r.result a b → ImagesAnswer (settled_places known) 0 known.target respond r.images r.result a b
as_settled respond s known r a b e f = subst (λ (x : Settled). ImagesAnswer (settled_places x) 0 x.target respond r.images r.result a b) e f

-- Of a device of one image.

pub alone_failed : (m : Mounted) (t : ℕ) (l : Layout) (held : Held) (respond : AbstractDevice → Response) (fault : CallFault) (u : UploadFault) (a b : FlashState) → IfSome a.bytes (SettledSay (alone_settled m t)) → Calls (area_spot (slot_of (known_mounted m).layout 0) ∷ []) (fault_end fault) a b → b.bytes ≡ a.bytes
    → held ≡ unknown_at l → l ≡ (known_mounted m).layout → u ≡ of_call fault
    → ImagesAnswer (alone_places m) 0 t respond (record { zero = held; one = None; target = t }) (Err u) a b
alone_failed m t l held respond fault u a b says calls kept e f is =
    let p = alone_places m in
    let images : Images = record { zero = held; one = None; target = t } in
    let un = unknown_is m l held e f in
    quiet_broken p 0 t respond images 0 fault u a b (λ i. record { first = held_layout (un i); second = None }) refl is (unknown_unmounted (known_mounted m).layout held un) (read_fell p 0 0 p.first fault a b refl calls) (calls_at p 0 p.first (fault_end fault) a b refl calls) kept
    (IfSome-map (SettledSay (alone_settled m t)) (ImagesSay images) a.bytes (λ v s. record { first = unknown_says m held v un s.first; second = tt }) says)

-- an act behind the read, where it is what the hash means
pub alone_acts : (m : Mounted) (t : ℕ) (act : Act) (hash : List ℕ) (confirm : Bool) (r : Replied) (a b c : FlashState) → Calls (area_spot (slot_of (known_mounted m).layout 0) ∷ []) Went a b → b.bytes ≡ a.bytes
    → IfSome a.bytes (SameHere (alone_places m) t (acts_on act 0) (sets_hash hash confirm)) → ImagesAnswer (alone_places m) 0 t (acts_on act 0) r.images r.result b c
    → ImagesAnswer (alone_places m) 0 t (sets_hash hash confirm) r.images r.result a c
alone_acts m t act hash confirm r a b c calls kept same f =
    let p = alone_places m in
    images_here p 0 t (acts_on act 0) (sets_hash hash confirm) r.images r.result a c same
    (read_then p 0 t (acts_on act 0) r.images r.result a b c (calls_at p 0 p.first Went a b refl calls) kept f)

pub alone_runs : (m : Mounted) (t : ℕ) (hash : List ℕ) (confirm b : Bool) (x : Option (List ℕ)) → b ≡ true → IfSome x (RunsIs (known_mounted m).layout hash b) → IfSome x (SameHere (alone_places m) t (acts_on (acts.Confirm confirm) 0) (sets_hash hash confirm))
alone_runs m t hash confirm b x e f =
    let p = alone_places m in
    IfSome-map (RunsIs (known_mounted m).layout hash b) (SameHere p t (acts_on (acts.Confirm confirm) 0) (sets_hash hash confirm)) x
    (λ u k. first_runs p t hash confirm u (runs_there p t 0 (known_mounted m).layout hash true u refl (subst (λ (q : Bool). RunsIs (known_mounted m).layout hash q u) e k))) f

pub alone_holds : OneSide → (m : Mounted) (t : ℕ) (hash : List ℕ) (confirm b c : Bool) (mark : Mark) (x : Option (List ℕ)) → b ≡ false → c ≡ true → mark ≡ mark_of confirm → c ≡ has_hash hash (known_mounted m).image
    → IfSome x (RunsIs (known_mounted m).layout hash b) → IfSome x (SettledSay (alone_settled m t)) → IfSome x (SameHere (alone_places m) t (acts_on (acts.Mark mark) 0) (sets_hash hash confirm))
alone_holds one m t hash confirm b c mark x e f is has r says =
    let p = alone_places m in
    both_some (RunsIs (known_mounted m).layout hash b) (SettledSay (alone_settled m t)) (SameHere p t (acts_on (acts.Mark mark) 0) (sets_hash hash confirm)) x
    (λ u k s. first_holds p t hash confirm mark u is (runs_there p t 0 (known_mounted m).layout hash false u refl (subst (λ (q : Bool). RunsIs (known_mounted m).layout hash q u) e k)) (runs_none p t hash u refl)
    (holds_there one p t 0 m hash true u refl (sym f ∙ has) s.first)) r says

pub alone_none : OneSide → (m : Mounted) (t : ℕ) (hash : List ℕ) (confirm b c : Bool) (r : Replied) (a d : FlashState) → b ≡ false → c ≡ false → c ≡ has_hash hash (known_mounted m).image
    → Calls (area_spot (slot_of (known_mounted m).layout 0) ∷ []) Went a d → d.bytes ≡ a.bytes
    → IfSome a.bytes (RunsIs (known_mounted m).layout hash b) → IfSome a.bytes (SettledSay (alone_settled m t)) → r ≡ record { images = record { zero = helds.Mounted m; one = None; target = t }; result = Ok (replied.GroupError 1 8) }
    → ImagesAnswer (alone_places m) 0 t (sets_hash hash confirm) r.images r.result a d
alone_none one m t hash confirm b c r a d e f has calls kept runs2 says is =
    let p = alone_places m in
    let images : Images = record { zero = helds.Mounted m; one = None; target = t } in
    subst (λ (x : Replied). ImagesAnswer p 0 t (sets_hash hash confirm) x.images x.result a d) (sym is)
    (quiet p 0 t (sets_hash hash confirm) images (replied.GroupError 1 8) a d refl refl (calls_at p 0 p.first Went a d refl calls) kept
    (IfSome-map (SettledSay (alone_settled m t)) (ImagesSay images) a.bytes (λ v s. record { first = s.first; second = tt }) says)
    (both_some (RunsIs (known_mounted m).layout hash b) (SettledSay (alone_settled m t)) (λ u. (x : AbstractDevice) → ImagesStand p t x u → sets_hash hash confirm x ≡ reply_alone (said_of (replied.GroupError 1 8))) a.bytes
    (λ u k s x stands. sym (none_has p t hash confirm u (runs_there p t 0 (known_mounted m).layout hash false u refl (subst (λ (q : Bool). RunsIs (known_mounted m).layout hash q u) e k)) (runs_none p t hash u refl)
    (holds_there one p t 0 m hash false u refl (sym f ∙ has) s.first) (holds_none p t hash u refl) x stands)) runs2 says))

-- Of a device of two.

-- what is known of the hash
pub record Four (p : Places) (t : ℕ) (hash : List ℕ) (b c e f : Bool) (u : List ℕ) : Type 0 where
  pub runs_0 : RunsAt p t 0 hash b u
  pub runs_1 : RunsAt p t 1 hash c u
  pub holds_0 : HoldsAt p t 0 hash e u
  pub holds_1 : HoldsAt p t 1 hash f u

some_three : (P Q R S : List ℕ → Type 0) (x : Option (List ℕ)) → ((u : List ℕ) → P u → Q u → R u → S u) → IfSome x P → IfSome x Q → IfSome x R → IfSome x S
some_three P Q R S None f p q r = tt
some_three P Q R S (Some u) f p q r = f u p q r

pub four_known : OneSide → (m n : Mounted) (t : ℕ) (hash : List ℕ) (b c e f : Bool) (x y : Option (List ℕ)) → y ≡ x → e ≡ has_hash hash (known_mounted m).image → f ≡ has_hash hash (known_mounted n).image
    → IfSome x (RunsIs (known_mounted m).layout hash b) → IfSome y (RunsIs (known_mounted n).layout hash c) → IfSome x (SettledSay (both_settled m n t)) → IfSome x (Four (both_places m n) t hash b c e f)
four_known one m n t hash b c e f x y kept g h r s says =
    let p = both_places m n in
    some_three (RunsIs (known_mounted m).layout hash b) (RunsIs (known_mounted n).layout hash c) (SettledSay (both_settled m n t)) (Four p t hash b c e f) x
    (λ u k l w. record {
      runs_0 = runs_there p t 0 (known_mounted m).layout hash b u refl k;
      runs_1 = runs_there p t 1 (known_mounted n).layout hash c u refl l;
      holds_0 = holds_there one p t 0 m hash e u refl g w.first;
      holds_1 = holds_there one p t 1 n hash f u refl h w.second;
    }) r (subst (λ (z : Option (List ℕ)). IfSome z (RunsIs (known_mounted n).layout hash c)) kept s) says

pub both_runs_0 : (m n : Mounted) (t : ℕ) (hash : List ℕ) (confirm b : Bool) (x : Option (List ℕ)) → b ≡ true → IfSome x (RunsIs (known_mounted m).layout hash b) → IfSome x (SameHere (both_places m n) t (acts_on (acts.Confirm confirm) 0) (sets_hash hash confirm))
both_runs_0 m n t hash confirm b x e f =
    let p = both_places m n in
    IfSome-map (RunsIs (known_mounted m).layout hash b) (SameHere p t (acts_on (acts.Confirm confirm) 0) (sets_hash hash confirm)) x
    (λ u k. first_runs p t hash confirm u (runs_there p t 0 (known_mounted m).layout hash true u refl (subst (λ (q : Bool). RunsIs (known_mounted m).layout hash q u) e k))) f

pub both_runs_1 : (m n : Mounted) (t : ℕ) (hash : List ℕ) (confirm b c : Bool) (x y : Option (List ℕ)) → y ≡ x → b ≡ false → c ≡ true → IfSome x (RunsIs (known_mounted m).layout hash b) → IfSome y (RunsIs (known_mounted n).layout hash c)
    → IfSome x (SameHere (both_places m n) t (acts_on (acts.Confirm confirm) 1) (sets_hash hash confirm))
both_runs_1 m n t hash confirm b c x y kept e g f h =
    let p = both_places m n in
    both_some (RunsIs (known_mounted m).layout hash b) (RunsIs (known_mounted n).layout hash c) (SameHere p t (acts_on (acts.Confirm confirm) 1) (sets_hash hash confirm)) x
    (λ u k l. second_runs p t hash confirm u (runs_there p t 0 (known_mounted m).layout hash false u refl (subst (λ (q : Bool). RunsIs (known_mounted m).layout hash q u) e k))
    (runs_there p t 1 (known_mounted n).layout hash true u refl (subst (λ (q : Bool). RunsIs (known_mounted n).layout hash q u) g l))) f
    (subst (λ (z : Option (List ℕ)). IfSome z (RunsIs (known_mounted n).layout hash c)) kept h)

pub both_holds_0 : (p : Places) (t : ℕ) (hash : List ℕ) (confirm b c e f : Bool) (mark : Mark) (x : Option (List ℕ)) → mark ≡ mark_of confirm → b ≡ false → c ≡ false → e ≡ true → IfSome x (Four p t hash b c e f)
    → IfSome x (SameHere p t (acts_on (acts.Mark mark) 0) (sets_hash hash confirm))
both_holds_0 p t hash confirm b c e f mark x is eb ec ee k = IfSome-map (Four p t hash b c e f) (SameHere p t (acts_on (acts.Mark mark) 0) (sets_hash hash confirm)) x
    (λ u w. first_holds p t hash confirm mark u is (λ d st. w.runs_0 d st ∙ eb) (λ d st. w.runs_1 d st ∙ ec) (λ d st. w.holds_0 d st ∙ ee)) k

pub both_holds_1 : (p : Places) (t : ℕ) (hash : List ℕ) (confirm b c e f : Bool) (mark : Mark) (x : Option (List ℕ)) → mark ≡ mark_of confirm → b ≡ false → c ≡ false → e ≡ false → f ≡ true → IfSome x (Four p t hash b c e f)
    → IfSome x (SameHere p t (acts_on (acts.Mark mark) 1) (sets_hash hash confirm))
both_holds_1 p t hash confirm b c e f mark x is eb ec ee ef k = IfSome-map (Four p t hash b c e f) (SameHere p t (acts_on (acts.Mark mark) 1) (sets_hash hash confirm)) x
    (λ u w. second_holds p t hash confirm mark u is (λ d st. w.runs_0 d st ∙ eb) (λ d st. w.runs_1 d st ∙ ec) (λ d st. w.holds_0 d st ∙ ee) (λ d st. w.holds_1 d st ∙ ef)) k

-- an act behind one read, and behind two
pub both_acts : (m n : Mounted) (t i : ℕ) (act : Act) (hash : List ℕ) (confirm : Bool) (r : Replied) (a b c : FlashState) → Calls (area_spot (slot_of (known_mounted m).layout 0) ∷ []) Went a b → b.bytes ≡ a.bytes
    → IfSome a.bytes (SameHere (both_places m n) t (acts_on act i) (sets_hash hash confirm)) → ImagesAnswer (both_places m n) 0 t (acts_on act i) r.images r.result b c
    → ImagesAnswer (both_places m n) 0 t (sets_hash hash confirm) r.images r.result a c
both_acts m n t i act hash confirm r a b c calls kept same f =
    let p = both_places m n in
    images_here p 0 t (acts_on act i) (sets_hash hash confirm) r.images r.result a c same
    (read_then p 0 t (acts_on act i) r.images r.result a b c (calls_at p 0 p.first Went a b refl calls) kept f)

pub both_acts_then : (m n : Mounted) (t i : ℕ) (act : Act) (hash : List ℕ) (confirm : Bool) (r : Replied) (a b c d : FlashState) → Calls (area_spot (slot_of (known_mounted m).layout 0) ∷ []) Went a b → b.bytes ≡ a.bytes
    → Calls (area_spot (slot_of (known_mounted n).layout 0) ∷ []) Went b c → c.bytes ≡ b.bytes
    → IfSome a.bytes (SameHere (both_places m n) t (acts_on act i) (sets_hash hash confirm)) → ImagesAnswer (both_places m n) 0 t (acts_on act i) r.images r.result c d
    → ImagesAnswer (both_places m n) 0 t (sets_hash hash confirm) r.images r.result a d
both_acts_then m n t i act hash confirm r a b c d calls kept more still same f =
    let p = both_places m n in
    both_acts m n t i act hash confirm r a b d calls kept same
    (read_then p 0 t (acts_on act i) r.images r.result b c d (calls_at p 1 (known_mounted n).layout Went b c refl more) still f)

as_replied : (p : Places) (t : ℕ) (respond : AbstractDevice → Response) (r : Replied) (images known : Images) (q : Result Reply UploadFault) (a b : FlashState) → r ≡ record { images = images; result = q } → images ≡ known
    → ImagesAnswer p 0 t respond known q a b → ImagesAnswer p 0 t respond r.images r.result a b
as_replied p t respond r images known q a b e f h =
    subst (λ (x : Replied). ImagesAnswer p 0 t respond x.images x.result a b) (sym e) (subst (λ (x : Images). ImagesAnswer p 0 t respond x q a b) (sym f) h)

pub both_failed_0 : (m n : Mounted) (t : ℕ) (l : Layout) (held : Held) (images : Images) (r : Replied) (respond : AbstractDevice → Response) (fault : CallFault) (a b : FlashState) → IfSome a.bytes (SettledSay (both_settled m n t))
    → Calls (area_spot (slot_of (known_mounted m).layout 0) ∷ []) (fault_end fault) a b → b.bytes ≡ a.bytes → held ≡ unknown_at l → l ≡ (known_mounted m).layout
    → images ≡ record { zero = held; one = Some (helds.Mounted n); target = t } → r ≡ record { images = images; result = Err (of_call fault) } → ImagesAnswer (both_places m n) 0 t respond r.images r.result a b
both_failed_0 m n t l held images r respond fault a b says calls kept e f g h =
    let p = both_places m n in
    let known : Images = record { zero = held; one = Some (helds.Mounted n); target = t } in
    let un = unknown_is m l held e f in
    as_replied p t respond r images known (Err (of_call fault)) a b h g
    (quiet_broken p 0 t respond known 0 fault (of_call fault) a b (λ i. record { first = held_layout (un i); second = Some (known_mounted n).layout }) refl refl (unknown_unmounted (known_mounted m).layout held un) (read_fell p 0 0 p.first fault a b refl calls) (calls_at p 0 p.first (fault_end fault) a b refl calls) kept
    (IfSome-map (SettledSay (both_settled m n t)) (ImagesSay known) a.bytes (λ v s. record { first = unknown_says m held v un s.first; second = s.second }) says))

pub both_failed_1 : (m n : Mounted) (t : ℕ) (l : Layout) (held : Held) (images : Images) (r : Replied) (respond : AbstractDevice → Response) (fault : CallFault) (a b c : FlashState) → IfSome a.bytes (SettledSay (both_settled m n t))
    → Calls (area_spot (slot_of (known_mounted m).layout 0) ∷ []) Went a b → b.bytes ≡ a.bytes → Calls (area_spot (slot_of (known_mounted n).layout 0) ∷ []) (fault_end fault) b c → c.bytes ≡ b.bytes → held ≡ unknown_at l → l ≡ (known_mounted n).layout
    → images ≡ record { zero = helds.Mounted m; one = Some held; target = t } → r ≡ record { images = images; result = Err (of_call fault) } → ImagesAnswer (both_places m n) 0 t respond r.images r.result a c
both_failed_1 m n t l held images r respond fault a b c says calls kept more still e f g h =
    let p = both_places m n in
    let known : Images = record { zero = helds.Mounted m; one = Some held; target = t } in
    let un = unknown_is n l held e f in
    as_replied p t respond r images known (Err (of_call fault)) a c h g
    (quiet_broken p 0 t respond known 1 fault (of_call fault) a c (λ i. record { first = (known_mounted m).layout; second = Some (held_layout (un i)) }) refl refl (unknown_unmounted (known_mounted n).layout held un)
    (read_fell_then p 0 1 (known_mounted n).layout fault a b c refl (calls_at p 0 p.first Went a b refl calls) kept more)
    (Calls-after (spots_of p) (fault_end fault) a b c (calls_at p 0 p.first Went a b refl calls) (calls_at p 1 (known_mounted n).layout (fault_end fault) b c refl more)) (still ∙ kept)
    (IfSome-map (SettledSay (both_settled m n t)) (ImagesSay known) a.bytes (λ v s. record { first = s.first; second = unknown_says n held v un s.second }) says))

pub both_none : (m n : Mounted) (t : ℕ) (hash : List ℕ) (confirm b c e f : Bool) (images : Images) (r : Replied) (x y z : FlashState) → b ≡ false → c ≡ false → e ≡ false → f ≡ false → IfSome x.bytes (Four (both_places m n) t hash b c e f)
    → Calls (area_spot (slot_of (known_mounted m).layout 0) ∷ []) Went x y → y.bytes ≡ x.bytes → Calls (area_spot (slot_of (known_mounted n).layout 0) ∷ []) Went y z → z.bytes ≡ y.bytes → IfSome x.bytes (SettledSay (both_settled m n t))
    → images ≡ record { zero = helds.Mounted m; one = Some (helds.Mounted n); target = t } → r ≡ record { images = images; result = Ok (replied.GroupError 1 8) }
    → ImagesAnswer (both_places m n) 0 t (sets_hash hash confirm) r.images r.result x z
both_none m n t hash confirm b c e f images r x y z eb ec ee ef four calls kept more still says g h =
    let p = both_places m n in
    let known : Images = record { zero = helds.Mounted m; one = Some (helds.Mounted n); target = t } in
    as_replied p t (sets_hash hash confirm) r images known (Ok (replied.GroupError 1 8)) x z h g
    (quiet p 0 t (sets_hash hash confirm) known (replied.GroupError 1 8) x z refl refl (Calls-after (spots_of p) Went x y z (calls_at p 0 p.first Went x y refl calls) (calls_at p 1 (known_mounted n).layout Went y z refl more)) (still ∙ kept)
    (IfSome-map (SettledSay (both_settled m n t)) (ImagesSay known) x.bytes (λ v s. record { first = s.first; second = s.second }) says)
    (IfSome-map (Four p t hash b c e f) (λ u. (d : AbstractDevice) → ImagesStand p t d u → sets_hash hash confirm d ≡ reply_alone (said_of (replied.GroupError 1 8))) x.bytes
    (λ u w d stands. sym (none_has p t hash confirm u (λ k st. w.runs_0 k st ∙ eb) (λ k st. w.runs_1 k st ∙ ec) (λ k st. w.holds_0 k st ∙ ee) (λ k st. w.holds_1 k st ∙ ef) d stands)) four))

-- The request.

-- without a hash the image that runs is confirmed, or the request is invalid
pub running_refused : (p : Places) (t : ℕ) (confirm : Bool) → confirm ≡ false → SameFor p t (λ d. sets_no_hash d confirm) (λ d. reply_alone (said_of (replied.SmpError 3)))
running_refused p t confirm e = λ d bytes stands. ap (λ (c : Bool). sets_no_hash d c) e

pub running_confirmed : (p : Places) (t : ℕ) (confirm : Bool) → confirm ≡ true → SameFor p t (λ d. settling d (acts_on (acts.Confirm true) 0)) (λ d. sets_no_hash d confirm)
running_confirmed p t confirm e = λ d bytes stands. sym (ap (λ (c : Bool). sets_no_hash d c) e)

hash_by : (hash : List ℕ) (confirm : Bool) (d : AbstractDevice) (b : Bool) → 0 < length hash → (length hash == 32) ≡ b
    → sets_image d (Some hash) confirm ≡ (if b then settling d (sets_hash hash confirm) else refuses_image 24)
hash_by [] confirm d b lt e = absurd (omega arith)
hash_by (x ∷ xs) confirm d b lt e = ap (λ (c : Bool). if c then settling d (sets_hash (x ∷ xs) confirm) else refuses_image 24) e

pub hash_empty : (p : Places) (t : ℕ) (hash : List ℕ) (confirm : Bool) → length hash ≡ 0 → SameFor p t (λ d. sets_no_hash d confirm) (λ d. sets_image d (Some hash) confirm)
hash_empty p t [] confirm e = λ d bytes stands. refl
hash_empty p t (x ∷ xs) confirm e = absurd (omega arith)

pub hash_wrong : (p : Places) (t : ℕ) (hash : List ℕ) (confirm : Bool) → (length hash ≡ 0 → ⊥) → (length hash ≡ 32 → ⊥) → SameFor p t (λ d. sets_image d (Some hash) confirm) (λ d. refuses_image 24)
hash_wrong p t hash confirm some wrong = λ d bytes stands. hash_by hash confirm d false (omega (arith, some)) (grind (arith, nat_tests, wrong))

pub hash_right : (p : Places) (t : ℕ) (hash : List ℕ) (confirm : Bool) → length hash ≡ 32 → SameFor p t (λ d. settling d (sets_hash hash confirm)) (λ d. sets_image d (Some hash) confirm)
hash_right p t hash confirm right = λ d bytes stands. sym (hash_by hash confirm d true (omega (arith, right)) (grind (arith, nat_tests, right)))

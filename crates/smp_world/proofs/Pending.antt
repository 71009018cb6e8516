-- What is pending is good at each place of a run, and stays as it is.
use Rattle.std.proofs.Common.{◌≡◌, inl, inr, ℕ, List, [], ◌∷◌, ◌++◌, Option, Some, None, Result, Ok, Err, refl, sym, ap, subst, ◌∙◌, append-nil}
use Rattle.smp_model.specs.declared.device.AbstractDevice.{AbstractDevice}
use Rattle.smp_model.specs.declared.device.Sizes.{Sizes}
use Rattle.smp_model.specs.declared.device.Upload.{Upload}
use Rattle.smp_model.specs.declared.upload.Mark.{Mark}
use Rattle.smp_model.specs.Does.{does}
use Rattle.std.specs.Prelude.{IfSome}
use Rattle.smp_model.specs.declared.device.Side.{Side}
use Rattle.smp_model.specs.Counters.{after_drop}
use Rattle.smp_model.specs.Laws.{EachSide, OnImage, PendingIsGood, GoodUpload, GoodWhere, SameUpload}
use Rattle.smp_model.specs.Meaning.{meaning}
use Rattle.smp_model.specs.Meant as meant
use Rattle.smp_model.specs.Meant.{Meant}
use Rattle.smp_model.specs.Steps.{Step, applied, settle_steps, side_at, start, Part}
use Rattle.smp_device.specs.Goings.{Armed, Durable, durable, Went, Goes, after_going, Booted, Boots, after_boot}
use Rattle.smp_world.specs.Comings.{Came, Comes, after_coming, booted_if, BootsAfter}
use Rattle.smp_model.specs.Handled.{is_reset}
use Rattle.smp_world.specs.Runs.{Event, State, Moment, Run as IsRun, state_at_end}
use Rattle.smp_world.proofs.Deeds.{Says, Holds, each_deed}
use Rattle.smp_world.proofs.Durably.{boot_durable, boot_after_reset, going_durable, side_alike, means, fails}

-- what a packet or a boot makes of a device is a part of steps that laws speak of
pub part_of_request : (sizes : Sizes) (h : Option Armed) (d : AbstractDevice) (m : Meant) (w : Went) → Goes sizes h d (Ok m) w → Part d (does sizes d m).steps (applied w.taken d)
part_of_request sizes h d m w (inl p) = record {
  front = (does sizes d m).steps;
  rest = [];
  split = sym (append-nil (does sizes d m).steps);
  reached = ap (λ (t : List Step). applied t d) p.taken;
}
part_of_request sizes h d m w (inr p) = record {
  front = w.taken;
  rest = p.rest;
  split = subst (λ (x : Meant). (does sizes d x).steps ≡ w.taken ++ p.rest) (sym (same m p.request p.means)) p.split;
  reached = refl;
}
  where
    same : (m n : Meant) → means m ≡ means n → m ≡ n
    same m n e = cc

pub nothing_of_error : (sizes : Sizes) (h : Option Armed) (d : AbstractDevice) (number : ℕ) (w : Went) → Goes sizes h d (Err number) w → w.taken ≡ []
nothing_of_error sizes h d number w (inl p) = p.taken
nothing_of_error sizes h d number w (inr p) = absurd (err_ok number p.request p.means)
  where
    err_ok : (number : ℕ) (m : Meant) → fails number ≡ means m → ⊥
    err_ok number m e = cc

pub part_of_boot : (h : Option Armed) (d : AbstractDevice) (b : Booted) → Boots h d b → Part d (settle_steps d) (applied b.taken d)
part_of_boot h d b (inl p) = record {
  front = settle_steps d;
  rest = [];
  split = sym (append-nil (settle_steps d));
  reached = ap (λ (t : List Step). applied t d) p.taken;
}
part_of_boot h d b (inr p) = record { front = b.taken; rest = p.rest; split = p.split; reached = refl }

-- a fact of what is durable that requests and settling keep, each event keeps
pub record LastsAtBoots (P : AbstractDevice → Type 0) : Type 0 where
  pub alike : (d e : AbstractDevice) → durable e ≡ durable d → P d → P e
  pub settling : (d e : AbstractDevice) → P d → Part d (settle_steps d) e → P e

pub record Lasts (sizes : Sizes) (P : AbstractDevice → Type 0) : Type 0 where
  pub boots : LastsAtBoots P
  pub requests : (d e : AbstractDevice) (m : Meant) → P d → Part d (does sizes d m).steps e → P e

pub going_lasts : (sizes : Sizes) (P : AbstractDevice → Type 0) → Lasts sizes P → (h : Option Armed) (d : AbstractDevice) (mm : Result Meant ℕ) (w : Went)
    → Goes sizes h d mm w → P d → P (applied w.taken d)
going_lasts sizes P k h d (Ok m) w g p = k.requests d (applied w.taken d) m p (part_of_request sizes h d m w g)
going_lasts sizes P k h d (Err number) w g p = subst (λ (t : List Step). P (applied t d)) (sym (nothing_of_error sizes h d number w g)) p

pub booting_lasts : (P : AbstractDevice → Type 0) → LastsAtBoots P → (h : Option Armed) (d : AbstractDevice) (b : Booted) → Boots h d b → P d → P (after_boot b d)
booting_lasts P k h d b boots p =
    k.alike (applied b.taken d) (after_boot b d) (boot_durable h d b boots) (k.settling d (applied b.taken d) p (part_of_boot h d b boots))

-- a boot after a packet
pub coming_after : (P : AbstractDevice → Type 0) → LastsAtBoots P → (mm : Result Meant ℕ) (c : Came) (d : AbstractDevice)
    → BootsAfter (is_reset mm) c.went.armed (after_going c.went d) c.boot → P (applied c.went.taken d) → P (after_coming c d)
coming_after P k mm c d boots p = by_boot c.boot boots
  where
    gone : P (after_going c.went d)
    gone = k.alike (applied c.went.taken d) (after_going c.went d) (going_durable c.went d) p

    by_boot : (b : Option Booted) → BootsAfter (is_reset mm) c.went.armed (after_going c.went d) b → P (booted_if b (after_going c.went d))
    by_boot None e = gone
    by_boot (Some b) e = booting_lasts P k c.went.armed (after_going c.went d) b (boot_after_reset mm c.went.armed (after_going c.went d) b e).1 gone

coming_lasts : (sizes : Sizes) (P : AbstractDevice → Type 0) → Lasts sizes P → (h : Option Armed) (d : AbstractDevice) (mm : Result Meant ℕ) (c : Came)
    → Comes sizes h d mm c → P d → P (after_coming c d)
coming_lasts sizes P k h d mm c comes p = coming_after P k.boots mm c d comes.boots (going_lasts sizes P k h d mm c.went comes.goes p)

abbrev pub Keeps : (AbstractDevice → Type 0) → Says
Keeps P d h x = P d → P x.device

pub lasting_holds : (sizes : Sizes) (P : AbstractDevice → Type 0) (e : Event) → Lasts sizes P → Holds sizes (Keeps P) e
lasting_holds sizes P e k = record {
  stays = λ d h p. p;
  unread = λ d h p. k.boots.alike d (record d { counters = after_drop d.counters }) refl p;
  arming = λ d h a is p. p;
  packet_comes = λ d h m c comes p. coming_lasts sizes P k h d (meaning m) c comes p;
  starts = λ d h b boots p. booting_lasts P k.boots h d b boots p;
}

pub run_lasts : (sizes : Sizes) (P : AbstractDevice → Type 0) → Lasts sizes P → (s : State) (events : List Event) (moments : List Moment)
    → IsRun sizes s events moments → P s.device → P (state_at_end s moments).device
run_lasts sizes P k s [] [] r p = p
run_lasts sizes P k s (e ∷ events) (m ∷ moments) r p =
    run_lasts sizes P k m.state events moments r.1 (each_deed sizes (Keeps P) s e m (lasting_holds sizes P e k) r.0 p)
run_lasts sizes P k s [] (m ∷ moments) r p = absurd r
run_lasts sizes P k s (e ∷ events) [] r p = absurd r

-- what is pending is good
abbrev pub RequestsGood : Type 0
RequestsGood = (sizes : Sizes) (d e : AbstractDevice) (m : Meant) → EachSide PendingIsGood d → Part d (does sizes d m).steps e → EachSide PendingIsGood e

abbrev pub SettlingGood : Type 0
SettlingGood = (d e : AbstractDevice) → EachSide PendingIsGood d → Part d (settle_steps d) e → EachSide PendingIsGood e

pub good_alike : (P : Side → Type 0) (d e : AbstractDevice) → durable e ≡ durable d → EachSide P d → EachSide P e
good_alike P d e h p = record {
  first = subst (λ (x : Durable). P x.first) (sym h) p.first;
  second = subst (λ (x : Durable). IfSome x.second P) (sym h) p.second;
}

pub good_lasts : RequestsGood → SettlingGood → (sizes : Sizes) → Lasts sizes (EachSide PendingIsGood)
good_lasts requests settling sizes = record {
  boots = record { alike = good_alike PendingIsGood; settling = λ d e p k. settling d e p k };
  requests = λ d e m p k. requests sizes d e m p k;
}

pub run_good : RequestsGood → SettlingGood → (sizes : Sizes) (s : State) (events : List Event) (moments : List Moment)
    → IsRun sizes s events moments → EachSide PendingIsGood s.device → EachSide PendingIsGood (state_at_end s moments).device
run_good requests settling sizes s events moments r p = run_lasts sizes (EachSide PendingIsGood) (good_lasts requests settling sizes) s events moments r p

-- and it does not change
abbrev pub RequestsSame : Type 0
RequestsSame = (sizes : Sizes) (d e : AbstractDevice) (m : Meant) (image : ℕ) (s : Side) (mark : Mark)
    → side_at image d ≡ Some s → PendingIsGood s → s.pending ≡ Some mark → Part d (does sizes d m).steps e → OnImage image (SameUpload s) e

abbrev pub StartedSame : Type 0
StartedSame = (d : AbstractDevice) (image : ℕ) (s : Side) (mark : Mark) → side_at image d ≡ Some s → PendingIsGood s → s.pending ≡ Some mark → OnImage image (SameUpload s) (start d)

-- a side with this upload, pending with this mark
abbrev pub StaysThis : ℕ → Mark → Option Upload → AbstractDevice → Type 0
StaysThis image mark upload d = OnImage image (λ s. (s.pending ≡ Some mark) × (s.upload ≡ upload)) d

good_here : (mark : Mark) (upload : Option Upload) (s : Side) → GoodUpload upload → (s.pending ≡ Some mark) × (s.upload ≡ upload) → PendingIsGood s
good_here mark upload s g h = subst (λ (p : Option Mark). GoodWhere p s.upload) (sym h.0) (subst GoodUpload (sym h.1) g)

same_this : (image : ℕ) (mark : Mark) (upload : Option Upload) (s : Side) (e : AbstractDevice) → (s.pending ≡ Some mark) × (s.upload ≡ upload) → OnImage image (SameUpload s) e → StaysThis image mark upload e
same_this image mark upload s e h k = record { side = k.side; found = k.found; fact = (k.fact.pending ∙ h.0, k.fact.upload ∙ h.1) }

settle_apart : RequestsSame → (image : ℕ) (d e : AbstractDevice) (mark : Mark) (upload : Option Upload) → GoodUpload upload → StaysThis image mark upload d → Part d (settle_steps d) e → StaysThis image mark upload e
settle_apart same image d e mark upload g p k =
    same_this image mark upload p.side e p.fact
    (same sizes d e meant.image_list image p.side mark p.found (good_here mark upload p.side g p.fact) p.fact.0
    (record { front = k.front; rest = k.rest; split = append-nil (settle_steps d) ∙ k.split; reached = k.reached }))
  where
    sizes : Sizes
    sizes = record { unit = 8; page = 512; slot = 1024 }

pub stays_lasts : RequestsSame → (sizes : Sizes) (image : ℕ) (mark : Mark) (upload : Option Upload) → GoodUpload upload → Lasts sizes (StaysThis image mark upload)
stays_lasts same sizes image mark upload g = record {
  boots = record {
    alike = λ d e h p. record { side = p.side; found = side_alike image d e h ∙ p.found; fact = p.fact };
    settling = λ d e p k. settle_apart same image d e mark upload g p k;
  };
  requests = λ d e m p k. same_this image mark upload p.side e p.fact (same sizes d e m image p.side mark p.found (good_here mark upload p.side g p.fact) p.fact.0 k);
}

pub run_same : RequestsSame → (sizes : Sizes) (state : State) (events : List Event) (moments : List Moment) (image : ℕ) (s : Side) (mark : Mark)
    → IsRun sizes state events moments → side_at image state.device ≡ Some s → PendingIsGood s → s.pending ≡ Some mark → OnImage image (SameUpload s) (state_at_end state moments).device
run_same same sizes state events moments image s mark r found p is =
    let ends = run_lasts sizes (StaysThis image mark s.upload) (stays_lasts same sizes image mark s.upload (subst (λ (o : Option Mark). GoodWhere o s.upload) is p)) state events moments r
    (record { side = s; found = found; fact = (is, refl) }) in
    record { side = ends.side; found = ends.found; fact = record { upload = ends.fact.1; pending = ends.fact.0 ∙ sym is } }

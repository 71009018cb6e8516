-- What a request takes of the patience of what is armed.
use Rattle.std.proofs.Common.{◌≡◌, ◌⊎◌, inl, inr, ℕ, zero, suc, Bool, true, false, if◌then◌else◌, Option, Some, None, List, [], ◌∷◌, ◌++◌, Result, Ok, Err, sym, ◌∙◌, ap, subst}
use Rattle.std.specs.Prelude.{IfSome, IsSome, IsSomeAnd, OnOk}
use Rattle.smp_flash.specs.Area.{Told}
use Rattle.smp_flash.specs.Calls.{Goes, Smaller}
use Rattle.smp_flash.specs.Layout.{image_of}
use Rattle.smp_flash.specs.Region.{slot_region, progress_region, progress_gate_region}
use Rattle.smp_flash.specs.State.{FlashState}
use Rattle.smp_flash.specs.declared.geometry.Geometry.{Geometry}
use Rattle.smp_flash.specs.declared.layout.Layout.{Layout}
use Rattle.smp_flash.specs.declared.region.Region.{Region}
use Rattle.smp_flash.specs.declared.region.Region.TheVariants as regions
use Rattle.smp_flash.proofs.Passing.{Smaller-then, then_Smaller}
use Rattle.smp_model.specs.declared.device.AbstractDevice.{AbstractDevice}
use Rattle.smp_model.specs.declared.device.Side.{Side}
use Rattle.smp_model.specs.declared.reply.Reply.{Reply}
use Rattle.smp_model.specs.ImageGroup.{is_offset}
use Rattle.smp_model.specs.Said.{Said, if_some}
use Rattle.smp_model.specs.Sides.{SideStep, Choose, Append, Drop, MarkPending, Confirm, side_apply, side_applied, side_settle_steps}
use Rattle.smp_model.specs.Steps.{Change, Step, OnSide, Run, aim_at, apply, applied, on_side, settle_steps_of, side_at}
use Rattle.smp_progress.specs.State.{AimsAtRecord}
use Rattle.smp_upload.specs.Bytes.{SideStands}
use Rattle.smp_upload.specs.Counting.{AimsAtSlot, CountsStep, CountsSteps, Pays}
use Rattle.smp_upload.specs.Moves.{Done, mount_spots}
use Rattle.smp_upload.specs.declared.states.UploadFault.{UploadFault}
use Rattle.smp_side.specs.Held.{responds_after, steps_by}
use Rattle.smp_device.specs.Answers.{ImagesPay, StepsPay}
use Rattle.smp_device.specs.Goings.{AreCounted, HasUpload, IsCounted, IsInFirstSlot, IsInProgress, IsInSecondSlot}
use Rattle.smp_device.specs.Laws.{Laws}
use Rattle.smp_device.specs.Places.{Places, ArePlaces, place_at, ImagesStand}
use Rattle.smp_device.specs.Requests.{between, responds_of, responds_on, side_response}
use Rattle.smp_device.specs.declared.images.SideRequest.{SideRequest}
use Rattle.smp_device.specs.declared.images.SideRequest.TheVariants as asks
use Rattle.smp_device.proofs.Lifting.{between_side, side_here, with_found}
use Rattle.smp_device.proofs.Parting.{is_second, some_is}

-- A step that a region of the image counts, counts in an aim at that region.

in_first : (l : Layout) (r : Region) (side : Side) (s : SideStep) → AimsAtSlot l 0 (Some r) → IsInFirstSlot s → CountsStep l (Some r) side s
in_first l r side (Choose a) aims c = absurd c
in_first l r side (Append bytes) aims c = absurd c
in_first l r side Drop aims c = absurd c
in_first l r side (MarkPending mark) aims c = absurd c
in_first l r side Confirm aims c = aims

in_second : (l : Layout) (r : Region) (side : Side) (s : SideStep) → AimsAtSlot l 1 (Some r) → IsInSecondSlot s → CountsStep l (Some r) side s
in_second l r side (Choose a) aims c = absurd c
in_second l r side (Append bytes) aims c = inr aims
in_second l r side Drop aims c = absurd c
in_second l r side (MarkPending mark) aims c = aims
in_second l r side Confirm aims c = absurd c

has_upload : (o : Option Side) (side : Side) → o ≡ Some side → HasUpload o → IsSome side.upload
has_upload None side e h = absurd h
has_upload (Some s) side e h = let same : s ≡ side = cc e in subst (λ (x : Side). IsSome x.upload) same h

in_progress : (l : Layout) (r : Region) (side : Side) (s : SideStep) (o : Option Side) → o ≡ Some side → AimsAtRecord l (Some r) → IsInProgress s o → CountsStep l (Some r) side s
in_progress l r side (Choose a) o e aims c = aims
in_progress l r side (Append bytes) o e aims c = inl aims
in_progress l r side Drop o e aims c = (has_upload o side e c, aims)
in_progress l r side (MarkPending mark) o e aims c = absurd c
in_progress l r side Confirm o e aims c = absurd c

found_as : (i j : ℕ) (d : AbstractDevice) (side : Side) → i ≡ j → side_at i d ≡ Some side → side_at j d ≡ Some side
found_as i j d side e f = subst (λ (n : ℕ). side_at n d ≡ Some side) e f

-- the layout is that of the image
counts_one : (l : Layout) (i : ℕ) (r : Region) (d : AbstractDevice) (side : Side) (s : SideStep) → image_of l ≡ i → side_at i d ≡ Some side → IsCounted r d (OnSide i s) → CountsStep l (Some r) side s
counts_one l i regions.Any d side s is found c = absurd c
counts_one l i regions.Slot0 d side s is found c = in_first l regions.Slot0 side s (ap (λ (n : ℕ). Some (slot_region n 0)) (sym (is ∙ c.0))) c.1
counts_one l i regions.Slot1 d side s is found c = in_second l regions.Slot1 side s (ap (λ (n : ℕ). Some (slot_region n 1)) (sym (is ∙ c.0))) c.1
counts_one l i regions.Progress d side s is found c =
    in_progress l regions.Progress side s (side_at 0 d) (found_as i 0 d side c.0 found) (inl (ap (λ (n : ℕ). Some (progress_region n)) (sym (is ∙ c.0)))) c.1
counts_one l i regions.ProgressGate d side s is found c =
    in_progress l regions.ProgressGate side s (side_at 0 d) (found_as i 0 d side c.0 found) (inr (ap (λ (n : ℕ). Some (progress_gate_region n)) (sym (is ∙ c.0)))) c.1
counts_one l i regions.Scratch d side s is found c = absurd c
counts_one l i regions.Settings d side s is found c = absurd c
counts_one l i regions.SettingsGate d side s is found c = absurd c
counts_one l i regions.Slot2 d side s is found c = in_first l regions.Slot2 side s (ap (λ (n : ℕ). Some (slot_region n 0)) (sym (is ∙ c.0))) c.1
counts_one l i regions.Slot3 d side s is found c = in_second l regions.Slot3 side s (ap (λ (n : ℕ). Some (slot_region n 1)) (sym (is ∙ c.0))) c.1
counts_one l i regions.Progress2 d side s is found c =
    in_progress l regions.Progress2 side s (side_at 1 d) (found_as i 1 d side c.0 found) (inl (ap (λ (n : ℕ). Some (progress_region n)) (sym (is ∙ c.0)))) c.1
counts_one l i regions.Progress2Gate d side s is found c =
    in_progress l regions.Progress2Gate side s (side_at 1 d) (found_as i 1 d side c.0 found) (inr (ap (λ (n : ℕ). Some (progress_gate_region n)) (sym (is ∙ c.0)))) c.1
counts_one l i regions.Scratch2 d side s is found c = absurd c

pub image_is : (g : Geometry) (p : Places) (i : ℕ) (l : Layout) → ArePlaces g p → place_at i p ≡ Some l → image_of l ≡ i
image_is g p zero l are at = subst (λ (x : Layout). image_of x ≡ 0) (some_is p.first l at) are.first.1
image_is g p (suc zero) l are at = (is_second g p.second l are.second at).1
image_is g p (suc (suc i)) l are at = absurd (cc at)

-- a change of what is lost at a start is counted nowhere
pub run_uncounted : (r : Region) (d : AbstractDevice) (change : Change) → IsCounted r d (Run change) → ⊥
run_uncounted regions.Any d change c = c
run_uncounted regions.Slot0 d change c = c
run_uncounted regions.Slot1 d change c = c
run_uncounted regions.Progress d change c = c
run_uncounted regions.ProgressGate d change c = c
run_uncounted regions.Scratch d change c = c
run_uncounted regions.Settings d change c = c
run_uncounted regions.SettingsGate d change c = c
run_uncounted regions.Slot2 d change c = c
run_uncounted regions.Slot3 d change c = c
run_uncounted regions.Progress2 d change c = c
run_uncounted regions.Progress2Gate d change c = c
run_uncounted regions.Scratch2 d change c = c

-- the steps of a side
pub counts_side : (l : Layout) (i : ℕ) (r : Region) (x : List SideStep) (d : AbstractDevice) (side : Side) → image_of l ≡ i → side_at i d ≡ Some side → AreCounted r d (on_side i x) → CountsSteps l (Some r) side x
counts_side l i r [] d side is found c = absurd c
counts_side l i r (s ∷ x) d side is found (inl one) = inl (counts_one l i r d side s is found one)
counts_side l i r (s ∷ x) d side is found (inr more) = inr (counts_side l i r x (apply (OnSide i s) d) (side_apply s side) is (with_found i (side_apply s) d side found) more)

pub counted_split : (r : Region) (a b : List Step) (d : AbstractDevice) → AreCounted r d (a ++ b) → AreCounted r d a ⊎ AreCounted r (applied a d) b
counted_split r [] b d c = inr c
counted_split r (s ∷ a) b d (inl one) = inl (inl one)
counted_split r (s ∷ a) b d (inr more) = elim (counted_split r a b (apply s d) more) [
  | inl first ↦ inl (inr first)
  | inr second ↦ inr second
]

pub counts_left : (l : Layout) (aim : Option Region) (side : Side) (x y : List SideStep) → CountsSteps l aim side x → CountsSteps l aim side (x ++ y)
counts_left l aim side [] y c = absurd c
counts_left l aim side (s ∷ x) y (inl one) = inl one
counts_left l aim side (s ∷ x) y (inr more) = inr (counts_left l aim (side_apply s side) x y more)

pub counts_right : (l : Layout) (aim : Option Region) (side : Side) (x y : List SideStep) → CountsSteps l aim (side_applied x side) y → CountsSteps l aim side (x ++ y)
counts_right l aim side [] y c = c
counts_right l aim side (s ∷ x) y c = inr (counts_right l aim (side_apply s side) x y c)

-- The side that the bytes stand for.

pub record SideThere (i : ℕ) (l : Layout) (d : AbstractDevice) (x : Option (List ℕ)) : Type 0 where
  pub side : Side
  pub found : side_at i d ≡ Some side
  pub stands : IsSomeAnd x (SideStands l side)

pub side_there : (p : Places) (t i : ℕ) (l : Layout) (d : AbstractDevice) (x : Option (List ℕ)) → place_at i p ≡ Some l → IsSomeAnd x (ImagesStand p t d) → SideThere i l d x
side_there p t i l d None at s = absurd s
side_there p t i l d (Some u) at s = let h = side_here p t i l d u at s in record { side = h.side; found = h.found; stands = h.stands }

pub and_map : (P Q : List ℕ → Type 0) (x : Option (List ℕ)) → ((u : List ℕ) → P u → Q u) → IsSomeAnd x P → IsSomeAnd x Q
and_map P Q None f s = absurd s
and_map P Q (Some u) f s = f u s

pub and_told : (R : List ℕ → List ℕ → Type 0) (P Q : List ℕ → Type 0) (x y : Option (List ℕ)) → ((u v : List ℕ) → R u v → P u → Q v) → Told R x y → IsSomeAnd x P → IsSomeAnd y Q
and_told R P Q None y f told s = absurd s
and_told R P Q (Some u) None f told s = absurd told
and_told R P Q (Some u) (Some v) f told s = f u v told s

pub and_some : (P Q : List ℕ → Type 0) (C : Type 0) (x : Option (List ℕ)) → ((u : List ℕ) → P u → Q u → C) → IfSome x P → IsSomeAnd x Q → C
and_some P Q C None f p s = absurd s
and_some P Q C (Some u) f p s = f u p s

-- What the calls on one side take.

-- where each counted step of the device is one of its side
pub pays_side : (p : Places) (t i : ℕ) (l : Layout) (steps : AbstractDevice → List Step) (s : Side → List SideStep) (a b : FlashState) → place_at i p ≡ Some l
    → ((r : Region) (d : AbstractDevice) (side : Side) → side_at i d ≡ Some side → AreCounted r d (steps d) → CountsSteps l (Some r) side (s side))
    → Pays l s a b → StepsPay p t steps a b
pays_side p t i l steps s a b at lift pays r d aim stands counted =
    let h = side_there p t i l d a.bytes at stands in
    pays.pays h.side h.stands (subst (λ (m : Option Region). CountsSteps l m h.side (s h.side)) (sym aim) (lift r d h.side h.found counted))

-- one call and then another
pub pays_both : (p : Places) (t : ℕ) (first : AbstractDevice → List Step) (second : AbstractDevice → List Step) (a b c : FlashState)
    → Goes a b → Goes b c → StepsPay p t first a b → Told (λ u v. (d : AbstractDevice) → ImagesStand p t d u → ImagesStand p t (applied (first d) d) v) a.bytes b.bytes
    → StepsPay p t second b c → StepsPay p t (λ d. first d ++ second (applied (first d) d)) a c
pays_both p t first second a b c goes more f does h r d aim stands counted = elim (counted_split r (first d) (second (applied (first d) d)) d counted) [
  | inl one ↦ Smaller-then a.patience b.patience c.patience (f r d aim stands one) more.patience
  | inr other ↦ then_Smaller a.patience b.patience c.patience goes.patience (h r (applied (first d) d) (goes.aim ∙ aim)
      (and_told (λ u v. (e : AbstractDevice) → ImagesStand p t e u → ImagesStand p t (applied (first e) e) v) (ImagesStand p t d) (ImagesStand p t (applied (first d) d)) a.bytes b.bytes (λ u v g s. g d s) does stands) other)
]

-- no steps, as far as the bytes tell
pub pays_none : (p : Places) (t : ℕ) (steps : AbstractDevice → List Step) (a b : FlashState) → IfSome a.bytes (λ u. (d : AbstractDevice) → ImagesStand p t d u → steps d ≡ []) → StepsPay p t steps a b
pays_none p t steps a b none r d aim stands counted =
    and_some (λ u. (e : AbstractDevice) → ImagesStand p t e u → steps e ≡ []) (ImagesStand p t d) (Smaller a.patience b.patience) a.bytes
    (λ u f s. absurd (subst (λ (x : List Step). AreCounted r d x) (f d s) counted)) none stands

-- the same steps, as far as the bytes tell
pub pays_same : (p : Places) (t : ℕ) (first other : AbstractDevice → List Step) (a b : FlashState) → IfSome a.bytes (λ u. (d : AbstractDevice) → ImagesStand p t d u → first d ≡ other d) → StepsPay p t first a b → StepsPay p t other a b
pays_same p t first other a b same f r d aim stands counted =
    and_some (λ u. (e : AbstractDevice) → ImagesStand p t e u → first e ≡ other e) (ImagesStand p t d) (Smaller a.patience b.patience) a.bytes
    (λ u g s. f r d aim stands (subst (λ (x : List Step). AreCounted r d x) (sym (g d s)) counted)) same stands

-- behind a call that changed no byte
pub pays_behind : (p : Places) (t : ℕ) (steps : AbstractDevice → List Step) (a b c : FlashState) → Goes a b → b.bytes ≡ a.bytes → StepsPay p t steps b c → StepsPay p t steps a c
pays_behind p t steps a b c goes kept f r d aim stands counted =
    then_Smaller a.patience b.patience c.patience goes.patience (f r d (goes.aim ∙ aim) (subst (λ (x : Option (List ℕ)). IsSomeAnd x (ImagesStand p t d)) (sym kept) stands) counted)

-- before another call that goes through
pub pays_before : (p : Places) (t : ℕ) (steps : AbstractDevice → List Step) (a b c : FlashState) → Goes b c → StepsPay p t steps a b → StepsPay p t steps a c
pays_before p t steps a b c goes f r d aim stands counted = Smaller-then a.patience b.patience c.patience (f r d aim stands counted) goes.patience

-- where the request was answered
pub ok_map : (P Q : Type 0) (r : Result Reply UploadFault) → (P → Q) → OnOk r P → OnOk r Q
ok_map P Q (Ok reply) f p = f p
ok_map P Q (Err fault) f p = tt

pub pays_failed : (P : Type 0) (fault : UploadFault) (r : Result Reply UploadFault) → r ≡ Err fault → OnOk r P
pays_failed P fault r e = subst (λ (x : Result Reply UploadFault). OnOk x P) (sym e) tt

-- A request about one image.

between_uncounted : (r : Region) (request : SideRequest) (i : ℕ) (s : Said) (d : AbstractDevice) → AreCounted r d (between request i s) → ⊥
between_uncounted r (asks.Start a bytes) i s d c = by (is_offset s) c
  where
    by : (b : Bool) → AreCounted r d (if b then Run (aim_at i) ∷ [] else []) → ⊥
    by true (inl k) = run_uncounted r d (aim_at i) k
    by true (inr k) = k
    by false k = k
between_uncounted r (asks.Part off tag bytes) i s d c = c
between_uncounted r asks.Erase i s d c = c

asked_counts : Laws → (unit : ℕ) (request : SideRequest) (i : ℕ) (l : Layout) → image_of l ≡ i → (r : Region) (d : AbstractDevice) (side : Side) → side_at i d ≡ Some side → AreCounted r d (responds_on unit request i d).steps
    → CountsSteps l (Some r) side (steps_by (responds_after side_settle_steps (side_response unit request)) side)
asked_counts laws unit request i l is r d side found c =
    let x = side_settle_steps side in
    let settled = side_applied x side in
    let answer = side_response unit request settled in
    let dx = applied (on_side i x) d in
    let z = between request i answer.reply in
    let dz = applied z dx in
    let fz : side_at i dz ≡ Some settled = between_side request i i answer.reply dx ∙ laws.found i x d side found in
    let here : AreCounted r d (on_side i x ++ (z ++ on_side i answer.steps)) = subst (λ (o : Option Side). AreCounted r d (responds_of unit request i o).steps) found c in
    elim (counted_split r (on_side i x) (z ++ on_side i answer.steps) d here) [
      | inl one ↦ counts_left l (Some r) side x answer.steps (counts_side l i r x d side is found one)
      | inr more ↦ elim (counted_split r z (on_side i answer.steps) dx more) [
        | inl two ↦ absurd (between_uncounted r request i answer.reply dx two)
        | inr last ↦ counts_right l (Some r) side x answer.steps (counts_side l i r answer.steps dz settled is fz last)
      ]
    ]

pub pays_asked : Laws → (g : Geometry) (p : Places) → ArePlaces g p → (unit : ℕ) (request : SideRequest) (i : ℕ) (l : Layout) → place_at i p ≡ Some l → (t : ℕ) (r : Result Reply UploadFault) (a b : FlashState)
    → OnOk r (Done l (mount_spots l) 5 (steps_by (responds_after side_settle_steps (side_response unit request))) a b) → OnOk r (ImagesPay p t (responds_on unit request i) a b)
pays_asked laws g p are unit request i l at t r a b done =
    let s = steps_by (responds_after side_settle_steps (side_response unit request)) in
    ok_map (Done l (mount_spots l) 5 s a b) (ImagesPay p t (responds_on unit request i) a b) r
    (λ f. pays_side p t i l (λ d. (responds_on unit request i d).steps) s a b at (asked_counts laws unit request i l (image_is g p i l are at)) f.pays) done

-- The mount of one image.

mount_counts : (i : ℕ) (l : Layout) → image_of l ≡ i → (r : Region) (d : AbstractDevice) (side : Side) → side_at i d ≡ Some side → AreCounted r d (settle_steps_of i d) → CountsSteps l (Some r) side (side_settle_steps side)
mount_counts i l is r d side found c =
    counts_side l i r (side_settle_steps side) d side is found (subst (λ (o : Option Side). AreCounted r d (if_some o (λ s. on_side i (side_settle_steps s)))) found c)

pub pays_mount : (g : Geometry) (p : Places) → ArePlaces g p → (i : ℕ) (l : Layout) → place_at i p ≡ Some l → (t : ℕ) (a b : FlashState) → Done l (mount_spots l) 2 side_settle_steps a b → StepsPay p t (settle_steps_of i) a b
pays_mount g p are i l at t a b done = pays_side p t i l (settle_steps_of i) side_settle_steps a b at (mount_counts i l (image_is g p i l are at)) done.pays

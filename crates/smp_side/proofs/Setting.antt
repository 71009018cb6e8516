-- Erases, marks and the confirmation of a side, and what a list says of it.
use Rattle.std.proofs.Common.{◌≡◌, ℕ, ◌≤◌, Bool, true, false, Option, Some, None, List, [], ◌∷◌, Ok, Err, refl, sym, ◌∙◌, ap, subst, if◌then◌else◌}
use Rattle.std.specs.Prelude.{IfSome, option_map, unwrap_or}
use Rattle.smp_flash.specs.Area.{Told}
use Rattle.smp_flash.specs.Calls.{Calls}
use Rattle.smp_flash.specs.Layout.{area_spot, slot_of, upload_spots}
use Rattle.smp_flash.specs.State.{FlashState, End, fault_end}
use Rattle.smp_flash.specs.State.End.{Went}
use Rattle.smp_flash.specs.declared.flash.CallFault.{CallFault}
use Rattle.smp_flash.specs.declared.layout.Layout.{Layout}
use Rattle.smp_flash.proofs.Passing.{Calls-after}
use Rattle.smp_flash.proofs.Telling.{IfSome-map, IfSome-same, Told-with, Told-after}
use Rattle.smp_model.specs.declared.device.Side.{Side}
use Rattle.smp_model.specs.declared.image.ImageInfo.{ImageInfo}
use Rattle.smp_model.specs.declared.reply.Reply.TheVariants as replied
use Rattle.smp_model.specs.declared.reply.SlotEntry.{SlotEntry}
use Rattle.smp_model.specs.declared.upload.Mark.{Mark}
use Rattle.smp_model.specs.Image.{good_image}
use Rattle.smp_model.specs.ImageGroup.{active_entry, second_entry, pair_of, no_image, erase_of, marks, confirms, same_mark}
use Rattle.smp_model.specs.Response.{SideResponse, side_responds}
use Rattle.smp_model.specs.Said as said
use Rattle.smp_model.specs.Said.{Said, is_error}
use Rattle.smp_model.specs.Sides.{Drop, MarkPending, Confirm}
use Rattle.smp_model.specs.Uploads.{uploaded_image}
use Rattle.smp_upload.specs.Bytes.{SideStands, active_in, confirmed_in}
use Rattle.smp_upload.specs.Counting.{Pays}
use Rattle.smp_upload.specs.Faults.{of_call, upload_fault_end}
use Rattle.smp_upload.specs.Moves.{Moved, Done, Does, mount_spots, one_step, no_steps}
use Rattle.smp_upload.specs.Primary.{Confirms, SaysOn}
use Rattle.smp_upload.specs.States.{Known, Knows, Says, known_mounted, known_idle, known_pending}
use Rattle.smp_upload.specs.declared.states.Idle.{Idle}
use Rattle.smp_upload.specs.declared.states.Lost.{Lost}
use Rattle.smp_upload.specs.declared.states.Mounted.{Mounted}
use Rattle.smp_upload.specs.declared.states.Mounted.TheVariants as mounts
use Rattle.smp_upload.specs.declared.states.Pending.{Pending}
use Rattle.smp_upload.specs.declared.states.UploadFault.{UploadFault}
use Rattle.smp_upload.specs.declared.states.UploadFault.TheVariants as faults
use Rattle.smp_upload.proofs.Composing.{Done-Moved, Done-is, Moved-wider}
use Rattle.smp_side.proofs.Spots.{primary_Calls, primary_covers}
use Rattle.smp_upload.proofs.Sides.{OneSide, says_shows, says_knows}
use Rattle.smp_side.specs.Held.{steps_by, Answers, Broken, Caused, response_of}
use Rattle.smp_side.specs.Listing.{IsPair}
use Rattle.smp_side.specs.declared.held.Held.TheVariants as helds
use Rattle.smp_side.specs.declared.held.Handed.{Handed}
use Rattle.smp_side.proofs.Answering.{Idles, Done-none, Moved-none, Moved-more, Done-more, Plain, Same, answered, answered_then, answers_after, answers_as, broken_off, readable_says, slot_end, slot_caused, NoRefusal}
use Rattle.smp_side.proofs.Parting.{call_done, lost_Answers, offers}

-- Erases.

abbrev pub erasing : Side → SideResponse
erasing side = erase_of side.pending

abbrev pub dropping : Side → SideResponse
dropping side = side_responds said.empty (Drop ∷ [])

-- the response is to an erase where nothing is pending
same_free : OneSide → (known : Known) (x : Option (List ℕ)) → known.pending ≡ None → IfSome x (Says known) → IfSome x (Same known.layout dropping erasing)
same_free one known x e says = IfSome-map (Says known) (Same known.layout dropping erasing) x
    (λ bytes s. record { same = λ side stands. let k : Knows known side = says_knows one known side bytes s stands in ap erase_of (sym e ∙ k.pending) }) says

dropped_says : (layout : Layout) (x : Option (List ℕ)) → IfSome x (λ held. (side : Side) → SideStands layout side held → said.empty ≡ (dropping side).reply)
dropped_says layout None = tt
dropped_says layout (Some u) = λ side stands. refl

dropping_fine : (layout : Layout) (x : Option (List ℕ)) → NoRefusal layout dropping x
dropping_fine layout None = tt
dropping_fine layout (Some u) = λ side stands. refl

pub erase_done : OneSide → (known : Known) (mounted : Mounted) (idle : Idle) (k : ℕ) (handed : Handed) (a b : FlashState) → known ≡ known_mounted mounted → known.pending ≡ None → k ≤ 1
    → handed ≡ record { held = helds.Mounted (mounts.Idle idle); result = Ok replied.Empty } → idle.layout ≡ known.layout → IfSome a.bytes (Says known)
    → Done known.layout (upload_spots known.layout) k (one_step Drop) a b → IfSome b.bytes (Says (known_idle idle)) → Answers (known_mounted mounted).layout 1 erasing handed a b
erase_done one known mounted idle k handed a b e free le h l says done after =
    let here : Answers known.layout 1 dropping handed a b =
    call_done known.layout 1 dropping said.empty (mounts.Idle idle) (known_idle idle) replied.Empty handed a b refl refl h l
    (Done-more known.layout (upload_spots known.layout) k 1 (one_step Drop) a b le done) after (dropped_says known.layout a.bytes) in
    subst (λ (x : Known). Answers x.layout 1 erasing handed a b) e (answers_as known.layout 1 dropping erasing handed a b (same_free one known a.bytes free says) here)

pub erase_lost : OneSide → (known : Known) (mounted : Mounted) (k : ℕ) (lost : Lost) (handed : Handed) (a b : FlashState) → known ≡ known_mounted mounted → known.pending ≡ None → k ≤ 1
    → lost.state.layout ≡ known.layout → Broken lost.state.layout lost.fault handed → Moved known.layout (upload_spots known.layout) k (one_step Drop) (upload_fault_end lost.fault) a b
    → IfSome a.bytes (Says known) → Caused known.layout 1 lost.fault a.bytes → Answers (known_mounted mounted).layout 1 erasing handed a b
erase_lost one known mounted k lost handed a b e free le l broken m says c =
    subst (λ (x : Known). Answers x.layout 1 erasing handed a b) e
    (answers_as known.layout 1 dropping erasing handed a b (same_free one known a.bytes free says)
    (lost_Answers known.layout 1 dropping lost handed a b l broken (Moved-more known.layout (upload_spots known.layout) k 1 (one_step Drop) (upload_fault_end lost.fault) a b le m) (readable_says known a.bytes says) c (dropping_fine known.layout a.bytes)))

plain_pending : OneSide → (known : Known) (mark : Mark) (respond : Option Mark → SideResponse) (reply : Said) (bytes : List ℕ) → known.pending ≡ Some mark → respond (Some mark) ≡ offers reply → Says known bytes
    → Plain known.layout (λ side. respond side.pending) reply bytes
plain_pending one known mark respond reply bytes e f says = record {
  plain = λ side stands.
      let k : Knows known side = says_knows one known side bytes says stands in ap respond (sym (sym e ∙ k.pending)) ∙ f;
}

pub erase_refused : OneSide → (mounted m : Mounted) (mark : Mark) (handed : Handed) (a : FlashState) → mounted ≡ m → (known_mounted m).pending ≡ Some mark
    → handed ≡ record { held = helds.Mounted m; result = Ok (replied.GroupError 1 9) } → IfSome a.bytes (Says (known_mounted mounted)) → Answers (known_mounted mounted).layout 1 erasing handed a a
erase_refused one mounted m mark handed a e busy h says =
    let says2 : IfSome a.bytes (Says (known_mounted m)) = subst (λ (k : Mounted). IfSome a.bytes (Says (known_mounted k))) e says in
    subst (λ (k : Mounted). Answers (known_mounted k).layout 1 erasing handed a a) (sym e)
    (answered one m 1 erasing (replied.GroupError 1 9) handed a h says2 (λ bytes s. plain_pending one (known_mounted m) mark erase_of (said.group_error 1 9) bytes busy refl s))

-- Marks.

abbrev pub marking : Mark → Side → SideResponse
marking mark side = response_of (marks mark side.pending)

abbrev marked : Mark → Side → SideResponse
marked mark side = side_responds said.empty (MarkPending mark ∷ [])

same_marked : OneSide → (known : Known) (mark : Mark) (x : Option (List ℕ)) → known.pending ≡ None → IfSome x (Says known) → IfSome x (Same known.layout (marked mark) (marking mark))
same_marked one known mark x e says = IfSome-map (Says known) (Same known.layout (marked mark) (marking mark)) x
    (λ bytes s. record { same = λ side stands. let k : Knows known side = says_knows one known side bytes s stands in ap (λ (p : Option Mark). response_of (marks mark p)) (sym e ∙ k.pending) }) says

marked_says : (layout : Layout) (mark : Mark) (x : Option (List ℕ)) → IfSome x (λ held. (side : Side) → SideStands layout side held → said.empty ≡ (marked mark side).reply)
marked_says layout mark None = tt
marked_says layout mark (Some u) = λ side stands. refl

marked_fine : (layout : Layout) (mark : Mark) (x : Option (List ℕ)) → NoRefusal layout (marked mark) x
marked_fine layout mark None = tt
marked_fine layout mark (Some u) = λ side stands. refl

pub mark_done : OneSide → (known : Known) (mounted : Mounted) (pending : Pending) (mark : Mark) (handed : Handed) (a b : FlashState) → known ≡ known_mounted mounted → known.pending ≡ None
    → handed ≡ record { held = helds.Mounted (mounts.Pending pending); result = Ok replied.Empty } → pending.layout ≡ known.layout → IfSome a.bytes (Says known)
    → Done known.layout (upload_spots known.layout) 0 (one_step (MarkPending mark)) a b → IfSome b.bytes (Says (known_pending pending)) → Answers (known_mounted mounted).layout 0 (marking mark) handed a b
mark_done one known mounted pending mark handed a b e free h l says done after =
    let here : Answers known.layout 0 (marked mark) handed a b =
    call_done known.layout 0 (marked mark) said.empty (mounts.Pending pending) (known_pending pending) replied.Empty handed a b refl refl h l done after (marked_says known.layout mark a.bytes) in
    subst (λ (x : Known). Answers x.layout 0 (marking mark) handed a b) e (answers_as known.layout 0 (marked mark) (marking mark) handed a b (same_marked one known mark a.bytes free says) here)

pub mark_lost : OneSide → (known : Known) (mounted : Mounted) (mark : Mark) (lost : Lost) (handed : Handed) (a b : FlashState) → known ≡ known_mounted mounted → known.pending ≡ None
    → lost.state.layout ≡ known.layout → Broken lost.state.layout lost.fault handed → Moved known.layout (upload_spots known.layout) 0 (one_step (MarkPending mark)) (upload_fault_end lost.fault) a b
    → IfSome a.bytes (Says known) → Caused known.layout 0 lost.fault a.bytes → Answers (known_mounted mounted).layout 0 (marking mark) handed a b
mark_lost one known mounted mark lost handed a b e free l broken m says c =
    subst (λ (x : Known). Answers x.layout 0 (marking mark) handed a b) e
    (answers_as known.layout 0 (marked mark) (marking mark) handed a b (same_marked one known mark a.bytes free says)
    (lost_Answers known.layout 0 (marked mark) lost handed a b l broken m (readable_says known a.bytes says) c (marked_fine known.layout mark a.bytes)))

-- a fault of a call that needs no record
pub never_worn : (known : Known) (fault : UploadFault) (x : Option (List ℕ)) → (fault ≡ faults.Unformatted → ⊥) → (fault ≡ faults.Worn → ⊥) → Caused known.layout 0 fault x
never_worn known faults.Unformatted x f w = absurd (f refl)
never_worn known faults.Worn x f w = absurd (w refl)
never_worn known (faults.Fault operation) x f w = tt
never_worn known faults.Off x f w = tt

-- the slot is pending already
already : (now asked : Mark) → same_mark now asked ≡ true → response_of (marks asked (Some now)) ≡ offers said.empty
already now asked e = ap (λ (b : Bool). response_of (if b then Ok [] else Err 28)) e

other : (now asked : Mark) → same_mark now asked ≡ false → response_of (marks asked (Some now)) ≡ offers (said.group_error 1 28)
other now asked e = ap (λ (b : Bool). response_of (if b then Ok [] else Err 28)) e

pub mark_already : OneSide → (mounted m : Mounted) (now mark : Mark) (handed : Handed) (a : FlashState) → mounted ≡ m → (known_mounted m).pending ≡ Some now → same_mark now mark ≡ true
    → handed ≡ record { held = helds.Mounted m; result = Ok replied.Empty } → IfSome a.bytes (Says (known_mounted mounted)) → Answers (known_mounted mounted).layout 0 (marking mark) handed a a
mark_already one mounted m now mark handed a e busy same h says =
    let says2 : IfSome a.bytes (Says (known_mounted m)) = subst (λ (k : Mounted). IfSome a.bytes (Says (known_mounted k))) e says in
    subst (λ (k : Mounted). Answers (known_mounted k).layout 0 (marking mark) handed a a) (sym e)
    (answered one m 0 (marking mark) replied.Empty handed a h says2 (λ bytes s. plain_pending one (known_mounted m) now (λ p. response_of (marks mark p)) said.empty bytes busy (already now mark same) s))

pub mark_refused : OneSide → (mounted m : Mounted) (now mark : Mark) (handed : Handed) (a : FlashState) → mounted ≡ m → (known_mounted m).pending ≡ Some now → same_mark now mark ≡ false
    → handed ≡ record { held = helds.Mounted m; result = Ok (replied.GroupError 1 28) } → IfSome a.bytes (Says (known_mounted mounted)) → Answers (known_mounted mounted).layout 0 (marking mark) handed a a
mark_refused one mounted m now mark handed a e busy same h says =
    let says2 : IfSome a.bytes (Says (known_mounted m)) = subst (λ (k : Mounted). IfSome a.bytes (Says (known_mounted k))) e says in
    subst (λ (k : Mounted). Answers (known_mounted k).layout 0 (marking mark) handed a a) (sym e)
    (answered one m 0 (marking mark) (replied.GroupError 1 28) handed a h says2 (λ bytes s. plain_pending one (known_mounted m) now (λ p. response_of (marks mark p)) (said.group_error 1 28) bytes busy (other now mark same) s))

-- The list.

pub list_said : OneSide → (known : Known) (layout : Layout) (image : ImageInfo) (confirmed : Bool) (first : SlotEntry) (second : Option SlotEntry) (bytes : List ℕ) (side : Side)
    → layout ≡ known.layout → first ≡ active_entry image confirmed → second ≡ option_map (second_entry known.pending) known.image
    → Says known bytes → good_image (active_in layout bytes) ≡ Some image → confirmed ≡ confirmed_in layout bytes
    → SideStands known.layout side bytes → record { first = first; second = second } ≡ pair_of side
list_said one known layout image confirmed first second bytes side e f s says good con stands =
    let k : Knows known side = says_knows one known side bytes says stands in
    let t = stands.stands in
    let active : active_in layout bytes ≡ side.active = ap (λ (l : Layout). active_in l bytes) e ∙ sym t.active in
    let is : good_image side.active ≡ Some image = ap good_image (sym active) ∙ good in
    let same : confirmed ≡ side.confirmed = con ∙ ap (λ (l : Layout). confirmed_in l bytes) e ∙ sym t.confirmed in
    let first_is : first ≡ active_entry (unwrap_or (good_image side.active) no_image) side.confirmed =
    f ∙ (λ i. active_entry (unwrap_or (sym is i) no_image) (same i)) in
    let second_is : second ≡ option_map (second_entry side.pending) (uploaded_image side.upload) =
    s ∙ (λ i. option_map (second_entry (k.pending i)) (k.image i)) in
    λ i. record { first = first_is i; second = second_is i }

pub three_some : (P Q R S : List ℕ → Type 0) (x : Option (List ℕ)) → ((u : List ℕ) → P u → Q u → R u → S u) → IfSome x P → IfSome x Q → IfSome x R → IfSome x S
three_some P Q R S None step p q r = tt
three_some P Q R S (Some u) step p q r = step u p q r

pub pair_told : OneSide → (m : Mounted) (layout : Layout) (image : ImageInfo) (confirmed : Bool) (first : SlotEntry) (second : Option SlotEntry) (x y : Option (List ℕ))
    → layout ≡ (known_mounted m).layout → first ≡ active_entry image confirmed → second ≡ option_map (second_entry (known_mounted m).pending) (known_mounted m).image
    → IfSome x (Says (known_mounted m)) → y ≡ x → IfSome x (λ held. good_image (active_in layout held) ≡ Some image) → IfSome y (λ held. confirmed ≡ confirmed_in layout held)
    → IfSome x (IsPair (known_mounted m).layout (record { first = first; second = second }))
pair_told one m layout image confirmed first second x y e f s says kept good con =
    three_some (Says (known_mounted m)) (λ held. good_image (active_in layout held) ≡ Some image) (λ held. confirmed ≡ confirmed_in layout held) (IsPair (known_mounted m).layout (record { first = first; second = second })) x
    (λ u says2 good2 con2 side stands. list_said one (known_mounted m) layout image confirmed first second u side e f s says2 good2 con2 stands)
    says good (IfSome-same (λ held. confirmed ≡ confirmed_in layout held) y x (sym kept) con)

pub pair_Calls : (layout l : Layout) (end : End) (a b : FlashState) → layout ≡ l → Calls (area_spot (slot_of layout 0) ∷ []) end a b → Calls (area_spot (slot_of l 0) ∷ []) end a b
pair_Calls layout l end a b e calls = subst (λ (k : Layout). Calls (area_spot (slot_of k 0) ∷ []) end a b) e calls

pub pair_Calls-then : (layout l : Layout) (end : End) (a b c : FlashState) → layout ≡ l → Calls (area_spot (slot_of layout 0) ∷ []) Went a b → Calls (area_spot (slot_of layout 0) ∷ []) end b c → Calls (area_spot (slot_of l 0) ∷ []) end a c
pair_Calls-then layout l end a b c e first second = pair_Calls layout l end a c e (Calls-after (area_spot (slot_of layout 0) ∷ []) end a b c first second)

-- The image that runs is confirmed.

abbrev pub confirming : Bool → Side → SideResponse
confirming confirm side = response_of (confirms confirm side.confirmed)

-- calls about slot 0
active_Calls : (layout l : Layout) (end : End) (a b : FlashState) → layout ≡ l → Calls (area_spot (slot_of layout 0) ∷ []) end a b → Calls (mount_spots l) end a b
active_Calls layout l end a b e calls = subst (λ (k : Layout). Calls (mount_spots k) end a b) e (primary_Calls layout end a b calls)

pub read_broken : (known : Known) (layout : Layout) (n : ℕ) (respond : Side → SideResponse) (handed : Handed) (fault : CallFault) (a b : FlashState)
    → layout ≡ known.layout → IfSome a.bytes (Says known) → Calls (area_spot (slot_of layout 0) ∷ []) (fault_end fault) a b → b.bytes ≡ a.bytes → Broken layout (of_call fault) handed
    → NoRefusal known.layout respond a.bytes → Answers known.layout n respond handed a b
read_broken known layout n respond handed fault a b e says calls kept broken t =
    broken_off known.layout n respond handed (of_call fault) a b (subst (λ (l : Layout). Broken l (of_call fault) handed) e broken)
    (Moved-none known.layout (mount_spots known.layout) n (steps_by respond) (upload_fault_end (of_call fault)) a b
    (subst (λ (end : End). Calls (mount_spots known.layout) end a b) (slot_end fault) (active_Calls layout known.layout (fault_end fault) a b e calls)) kept)
    (readable_says known a.bytes says) (slot_caused known.layout n fault a.bytes) t

pub confirm_refused : OneSide → (m : Mounted) (confirm : Bool) (handed : Handed) (a : FlashState) → confirm ≡ false → handed ≡ record { held = helds.Mounted m; result = Ok (replied.GroupError 1 33) } → IfSome a.bytes (Says (known_mounted m))
    → Answers (known_mounted m).layout 0 (confirming confirm) handed a a
confirm_refused one m confirm handed a e h says =
    answered one m 0 (confirming confirm) (replied.GroupError 1 33) handed a h says (λ u s. record { plain = λ side stands. ap (λ (c : Bool). response_of (confirms c side.confirmed)) e })

idles_none : OneSide → (known : Known) (u : List ℕ) → Says known u → Idles known.layout no_steps u
idles_none one known u s = record { idles = λ side stands. (refl, says_shows one known side u s stands) }

-- slot 0 was read
read_done : OneSide → (known : Known) (layout : Layout) (a b : FlashState) → layout ≡ known.layout → IfSome a.bytes (Says known) → Calls (area_spot (slot_of layout 0) ∷ []) Went a b → b.bytes ≡ a.bytes → Done known.layout (mount_spots known.layout) 0 no_steps a b
read_done one known layout a b e says calls kept =
    Done-none known.layout (mount_spots known.layout) 0 no_steps a b (active_Calls layout known.layout Went a b e calls) kept (IfSome-map (Says known) (Idles known.layout no_steps) a.bytes (idles_none one known) says)

-- what was read is what the side has
found_of : (l layout : Layout) (confirmed : Bool) (u : List ℕ) (side : Side) → l ≡ layout → confirmed ≡ confirmed_in l u → SideStands layout side u → side.confirmed ≡ confirmed
found_of l layout confirmed u side e c stands = stands.stands.confirmed ∙ ap (λ (k : Layout). confirmed_in k u) (sym e) ∙ sym c

same_set : (l layout : Layout) (confirm confirmed now : Bool) (response : SideResponse) (x : Option (List ℕ)) → l ≡ layout → confirm ≡ true → confirmed ≡ now → response ≡ response_of (confirms true now)
    → IfSome x (λ held. confirmed ≡ confirmed_in l held) → IfSome x (Same layout (λ side. response) (confirming confirm))
same_set l layout confirm confirmed now response x e c n f is = IfSome-map (λ held. confirmed ≡ confirmed_in l held) (Same layout (λ side. response) (confirming confirm)) x
    (λ u k. record { same = λ side stands. let g = found_of l layout confirmed u side e k stands in f ∙ (λ i. response_of (confirms (sym c i) (sym (g ∙ n) i))) }) is

plain_set : (layout : Layout) (confirm : Bool) (x : Option (List ℕ)) → IfSome x (Same layout (λ side. offers said.empty) (confirming confirm)) → IfSome x (Plain layout (confirming confirm) said.empty)
plain_set layout confirm x same = IfSome-map (Same layout (λ side. offers said.empty) (confirming confirm)) (Plain layout (confirming confirm) said.empty) x (λ u s. record { plain = λ side stands. sym (s.same side stands) }) same

pub confirm_already : OneSide → (m : Mounted) (layout : Layout) (confirm confirmed : Bool) (handed : Handed) (a b : FlashState) → confirm ≡ true → confirmed ≡ true → layout ≡ (known_mounted m).layout
    → handed ≡ record { held = helds.Mounted m; result = Ok replied.Empty } → IfSome a.bytes (Says (known_mounted m))
    → Calls (area_spot (slot_of layout 0) ∷ []) Went a b → b.bytes ≡ a.bytes → IfSome a.bytes (λ held. confirmed ≡ confirmed_in layout held) → Answers (known_mounted m).layout 0 (confirming confirm) handed a b
confirm_already one m layout confirm confirmed handed a b e f lay h says calls kept is =
    let known = known_mounted m in
    answered_then one m 0 (confirming confirm) replied.Empty handed a b h (active_Calls layout known.layout Went a b lay calls) kept says
    (plain_set known.layout confirm a.bytes (same_set layout known.layout confirm confirmed true (offers said.empty) a.bytes lay e f refl is))

confirm_wider : (known : Known) (layout : Layout) (b c : FlashState) → layout ≡ known.layout → IfSome b.bytes (Says known) → Moved layout (area_spot (slot_of layout 0) ∷ []) 0 (one_step Confirm) Went b c
    → Told (Confirms layout) b.bytes c.bytes → Pays layout (one_step Confirm) b c → Done known.layout (mount_spots known.layout) 0 (one_step Confirm) b c
confirm_wider known layout b c e says m does pays =
    let here : Done layout (mount_spots layout) 0 (one_step Confirm) b c = record {
      calls = primary_Calls layout Went b c m.calls;
      does = Told-with (Says known) (Confirms layout) (Does layout (one_step Confirm)) b.bytes c.bytes (λ u v s f. f known (sym e) s) says does;
      ages = m.ages;
      pending = m.pending;
      pays = pays;
    } in
    subst (λ (l : Layout). Done l (mount_spots l) 0 (one_step Confirm) b c) e here

abbrev confirmed_now : Side → SideResponse
confirmed_now side = side_responds said.empty (Confirm ∷ [])

still_says : (known : Known) (layout : Layout) (x y z : Option (List ℕ)) → layout ≡ known.layout → y ≡ x → IfSome x (Says known) → Told (SaysOn layout) y z → IfSome z (Says known)
still_says known layout x y z e kept says f =
    Told-after (Says known) (SaysOn layout) (Says known) y z (λ u v s g. g known (sym e) s) (IfSome-same (Says known) x y kept says) f

confirmed_fine : (layout : Layout) (x : Option (List ℕ)) → NoRefusal layout confirmed_now x
confirmed_fine layout None = tt
confirmed_fine layout (Some u) = λ side stands. refl

-- a confirmation that is asked for is not refused
confirms_fine : (confirmed : Bool) → is_error (response_of (confirms true confirmed)).reply ≡ false
confirms_fine true = refl
confirms_fine false = refl

pub confirming_fine : (layout : Layout) (confirm : Bool) (x : Option (List ℕ)) → confirm ≡ true → NoRefusal layout (confirming confirm) x
confirming_fine layout confirm None e = tt
confirming_fine layout confirm (Some u) e = λ side stands. ap (λ (c : Bool). is_error (response_of (confirms c side.confirmed)).reply) e ∙ confirms_fine side.confirmed

confirmed_says : (layout : Layout) (x : Option (List ℕ)) → IfSome x (λ held. (side : Side) → SideStands layout side held → said.empty ≡ (confirmed_now side).reply)
confirmed_says layout None = tt
confirmed_says layout (Some u) = λ side stands. refl

confirm_here : (m : Mounted) (handed : Handed) (b c : FlashState) → handed ≡ record { held = helds.Mounted m; result = Ok replied.Empty } → IfSome c.bytes (Says (known_mounted m))
    → Done (known_mounted m).layout (mount_spots (known_mounted m).layout) 0 (one_step Confirm) b c → Answers (known_mounted m).layout 0 confirmed_now handed b c
confirm_here m handed b c h says done =
    let l = (known_mounted m).layout in
    let here : Answers l 0 confirmed_now (record { held = helds.Mounted m; result = Ok replied.Empty }) b c = record {
      moved = Done-is l (mount_spots l) 0 (one_step Confirm) b c done;
      done = done;
      said = confirmed_says l b.bytes;
      says = says;
      layout_kept = refl;
      mounted = refl;
      caused = tt;
      tried = tt;
    } in
    subst (λ (x : Handed). Answers l 0 confirmed_now x b c) (sym h) here

pub confirm_done : OneSide → (m : Mounted) (layout : Layout) (confirm confirmed : Bool) (handed : Handed) (a b c : FlashState) → confirm ≡ true → confirmed ≡ false → layout ≡ (known_mounted m).layout
    → handed ≡ record { held = helds.Mounted m; result = Ok replied.Empty } → IfSome a.bytes (Says (known_mounted m))
    → Calls (area_spot (slot_of layout 0) ∷ []) Went a b → b.bytes ≡ a.bytes → IfSome a.bytes (λ held. confirmed ≡ confirmed_in layout held)
    → Moved layout (area_spot (slot_of layout 0) ∷ []) 0 (one_step Confirm) Went b c
    → Told (Confirms layout) b.bytes c.bytes → Pays layout (one_step Confirm) b c → Told (SaysOn layout) b.bytes c.bytes
    → Answers (known_mounted m).layout 0 (confirming confirm) handed a c
confirm_done one m layout confirm confirmed handed a b c e f lay h says calls kept is moved does pays on =
    let known = known_mounted m in
    let still : IfSome b.bytes (Says known) = IfSome-same (Says known) a.bytes b.bytes kept says in
    answers_as known.layout 0 confirmed_now (confirming confirm) handed a c (same_set layout known.layout confirm confirmed false (side_responds said.empty (Confirm ∷ [])) a.bytes lay e f refl is)
    (answers_after known.layout 0 0 no_steps confirmed_now handed a b c (read_done one known layout a b lay says calls kept)
    (confirm_here m handed b c h (still_says known layout a.bytes b.bytes c.bytes lay kept says on) (confirm_wider known layout b c lay still moved does pays)))

pub confirm_failed : OneSide → (m : Mounted) (layout : Layout) (confirm confirmed : Bool) (fault : CallFault) (handed : Handed) (a b c : FlashState) → confirm ≡ true → confirmed ≡ false → layout ≡ (known_mounted m).layout
    → IfSome a.bytes (Says (known_mounted m)) → Calls (area_spot (slot_of layout 0) ∷ []) Went a b → b.bytes ≡ a.bytes → IfSome a.bytes (λ held. confirmed ≡ confirmed_in layout held)
    → Moved layout (area_spot (slot_of layout 0) ∷ []) 0 (one_step Confirm) (fault_end fault) b c → Broken layout (of_call fault) handed
    → Answers (known_mounted m).layout 0 (confirming confirm) handed a c
confirm_failed one m layout confirm confirmed fault handed a b c e f lay says calls kept is m2 broken =
    let known = known_mounted m in
    let l = known.layout in
    let moved : Moved l (mount_spots l) 0 (one_step Confirm) (fault_end fault) b c =
    subst (λ (k : Layout). Moved k (mount_spots k) 0 (one_step Confirm) (fault_end fault) b c) lay (Moved-wider layout (mount_spots layout) (area_spot (slot_of layout 0) ∷ []) 0 (one_step Confirm) (fault_end fault) b c (primary_covers layout) m2) in
    let all : Moved l (mount_spots l) 0 (steps_by confirmed_now) (fault_end fault) a c = Done-Moved l (mount_spots l) 0 0 no_steps (one_step Confirm) (fault_end fault) a b c (read_done one known layout a b lay says calls kept) moved in
    answers_as l 0 confirmed_now (confirming confirm) handed a c (same_set layout l confirm confirmed false (side_responds said.empty (Confirm ∷ [])) a.bytes lay e f refl is)
    (broken_off l 0 confirmed_now handed (of_call fault) a c (subst (λ (k : Layout). Broken k (of_call fault) handed) lay broken)
    (subst (λ (end : End). Moved l (mount_spots l) 0 (steps_by confirmed_now) end a c) (slot_end fault) all)
    (readable_says known a.bytes says) (slot_caused l 0 fault a.bytes) (confirmed_fine l a.bytes))

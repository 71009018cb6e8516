-- The list of images, and the mounting of all as the code goes about it.
use Rattle.std.proofs.Common.{◌≡◌, ◌≤◌, ℕ, false, Option, Some, None, List, [], ◌∷◌, Ok, Err, refl, sym, ◌∙◌, ap, subst, arith}
use Rattle.std.specs.Prelude.{IfSome, option_map}
use Rattle.smp_flash.specs.Area.{Told, Keeps}
use Rattle.smp_flash.specs.Calls.{Calls}
use Rattle.smp_flash.specs.Layout.{area_spot, slot_of, progress_of, upload_spots}
use Rattle.smp_flash.specs.State.{FlashState, End, fault_end}
use Rattle.smp_flash.specs.State.End.{Went}
use Rattle.smp_flash.specs.declared.flash.CallFault.{CallFault}
use Rattle.smp_flash.specs.declared.flash.CallFault.TheVariants as callfaults
use Rattle.smp_flash.specs.declared.geometry.Geometry.{Geometry}
use Rattle.smp_flash.specs.declared.layout.Layout.{Layout}
use Rattle.smp_flash.proofs.Passing.{Calls-after, Calls-wider}
use Rattle.smp_flash.proofs.Telling.{IfSome-map}
use Rattle.smp_gate.specs.Newest.{AgesAtMost}
use Rattle.smp_model.specs.declared.device.AbstractDevice.{AbstractDevice}
use Rattle.smp_model.specs.declared.reply.Reply.{Reply}
use Rattle.smp_model.specs.declared.reply.Reply.TheVariants as replied
use Rattle.smp_model.specs.declared.reply.SidePair.{SidePair}
use Rattle.smp_model.specs.ImageGroup.{lists_after, pair_of}
use Rattle.smp_model.specs.Response.{Response, reply_alone, settling}
use Rattle.smp_model.specs.Said.{Said, said_of}
use Rattle.smp_model.specs.Said as said
use Rattle.smp_model.specs.Sides.{side_settle_steps}
use Rattle.smp_model.specs.Steps.{applied}
use Rattle.smp_upload.specs.Bytes.{Apart}
use Rattle.smp_upload.specs.Faults.{of_call, upload_fault_end}
use Rattle.smp_upload.specs.Moves.{Moved, Done, KeepsPending, mount_spots}
use Rattle.smp_upload.specs.States.{Says, known_mounted}
use Rattle.smp_upload.specs.declared.states.Lost.{Lost}
use Rattle.smp_upload.specs.declared.states.Mounted.{Mounted}
use Rattle.smp_upload.specs.declared.states.UploadFault.{UploadFault}
use Rattle.smp_side.specs.Held.{Broken, Caused, held_layout, HeldSays, is_mounted}
use Rattle.smp_side.specs.Listing.{IsPair}
use Rattle.smp_side.specs.declared.held.Held.{Held}
use Rattle.smp_side.specs.declared.held.Held.TheVariants as helds
use Rattle.smp_side.specs.declared.held.Handed.{Handed}
use Rattle.smp_side.proofs.Answering.{readable_of, slot_caused, slot_end}
use Rattle.smp_device.specs.Answers.{ImagesAnswer, ImagesMove, ImagesDo, ImagesTell, ImagesCaused}
use Rattle.smp_device.specs.Laws.{Laws}
use Rattle.smp_device.specs.Mounts.{FellIn, IsUnmountedAt}
use Rattle.smp_device.specs.Places.{Places, ArePlaces, place_at, spots_of, ImagesStand, places_of, ImagesSay}
use Rattle.smp_device.specs.Settling.{Settles, SettledSay, Unsettled, alone_places, both_places, alone_settled, both_settled, unknown_at}
use Rattle.smp_device.specs.declared.images.Images.{Images}
use Rattle.smp_device.specs.declared.images.Replied.{Replied}
use Rattle.smp_device.proofs.Asking.{zero_says, lost_says, first_says, other_kept, zero_one, one_zero, no_side}
use Rattle.smp_device.proofs.Falling.{fell_by, fell_read}
use Rattle.smp_device.proofs.Lifting.{side_here}
use Rattle.smp_device.proofs.Paying.{pays_none}
use Rattle.smp_device.proofs.Parting.{apart_of, covers_at, Covers-left}
use Rattle.smp_device.proofs.Settlements.{after_settling, lost_first, lost_second}

-- Mounting all.

pub unsettled_zero : Laws → (images : Images) (lost : Lost) (handed : Handed) (a b : FlashState) → ArePlaces a.geometry (places_of images) → lost.state.layout ≡ held_layout images.zero → IfSome a.bytes (ImagesSay images)
    → Broken lost.state.layout lost.fault handed
    → Moved (held_layout images.zero) (mount_spots (held_layout images.zero)) 2 side_settle_steps (upload_fault_end lost.fault) a b → Caused (held_layout images.zero) 2 lost.fault a.bytes
    → Unsettled (places_of images) images.target (record { images = record { zero = handed.held; one = images.one; target = images.target }; result = handed.result }) a b
unsettled_zero laws images lost handed a b are e says broken m c = λ respond.
    let kept : held_layout handed.held ≡ held_layout images.zero = broken.layout_kept ∙ e in
    lost_first laws a.geometry (record { zero = handed.held; one = images.one; target = images.target }) (places_of images) are respond lost.fault handed.result images.target a b refl broken.failed
    (λ i. record { first = kept i; second = option_map held_layout images.one }) (ap Some broken.unmounted) m c
    (zero_says laws a.geometry images are handed.held images.target a.bytes b.bytes (lost_says images.zero handed.held lost.fault a b kept broken.unmounted m (first_says images a.bytes says)) says m.calls.keeps)

pub second_still : Laws → (g : Geometry) (images : Images) → ArePlaces g (places_of images) → (held : Held) → images.one ≡ Some held → (x y : Option (List ℕ)) → IfSome x (ImagesSay images) → Told (Keeps (mount_spots (held_layout images.zero))) x y → IfSome y (HeldSays held)
second_still laws g images are held e None None s k = tt
second_still laws g images are held e None (Some v) s k = absurd k
second_still laws g images are held e (Some u) None s k = tt
second_still laws g images are held e (Some u) (Some v) s k =
    subst (λ (o : Option Held). IfSome o (λ h. HeldSays h v)) e
    (other_kept laws images.one (mount_spots (held_layout images.zero)) u v (λ m at. apart_of g (places_of images) are 0 1 (held_layout images.zero) m refl at zero_one) k s.second)

-- a mounted image says what it said, where image 1 is mounted
first_still : Laws → (g : Geometry) (images : Images) → ArePlaces g (places_of images) → (held : Held) → images.one ≡ Some held → (m : Mounted) → (known_mounted m).layout ≡ held_layout images.zero → (x y : Option (List ℕ)) → IfSome x (Says (known_mounted m)) → Told (Keeps (mount_spots (held_layout held))) x y → IfSome y (Says (known_mounted m))
first_still laws g images are held e m l None None s k = tt
first_still laws g images are held e m l None (Some v) s k = absurd k
first_still laws g images are held e m l (Some u) None s k = tt
first_still laws g images are held e m l (Some u) (Some v) s k =
    let apart = apart_of g (places_of images) are 1 0 (held_layout held) (held_layout images.zero) (ap (option_map held_layout) e) refl one_zero in
    laws.say (known_mounted m) (mount_spots (held_layout held)) u v (subst (λ (x : Layout). Apart x (mount_spots (held_layout held))) (sym l) apart) k s

pub both_some : (P Q R : List ℕ → Type 0) (x : Option (List ℕ)) → ((u : List ℕ) → P u → Q u → R u) → IfSome x P → IfSome x Q → IfSome x R
both_some P Q R None step p q = tt
both_some P Q R (Some u) step p q = step u p q

pub both_say : Laws → (g : Geometry) (images : Images) → ArePlaces g (places_of images) → (held : Held) → images.one ≡ Some held → (zero one : Mounted) (t : ℕ) → (known_mounted zero).layout ≡ held_layout images.zero → (x y : Option (List ℕ))
    → IfSome x (Says (known_mounted zero)) → Told (Keeps (mount_spots (held_layout held))) x y → IfSome y (Says (known_mounted one)) → IfSome y (SettledSay (record { zero = zero; one = Some one; target = t }))
both_say laws g images are held e zero one t l x y s k h =
    both_some (Says (known_mounted zero)) (Says (known_mounted one)) (SettledSay (record { zero = zero; one = Some one; target = t })) y (λ u p q. record { first = p; second = q }) (first_still laws g images are held e zero l x y s k) h

pub unsettled_one : Laws → (images : Images) (held : Held) → images.one ≡ Some held → (zero : Mounted) (lost : Lost) (handed : Handed) (a b c : FlashState) → ArePlaces a.geometry (places_of images) → (known_mounted zero).layout ≡ held_layout images.zero → lost.state.layout ≡ held_layout held
    → Done (held_layout images.zero) (mount_spots (held_layout images.zero)) 2 side_settle_steps a b → IfSome b.bytes (Says (known_mounted zero)) → IfSome b.bytes (HeldSays held)
    → Broken lost.state.layout lost.fault handed
    → Moved (held_layout held) (mount_spots (held_layout held)) 2 side_settle_steps (upload_fault_end lost.fault) b c → Caused (held_layout held) 2 lost.fault b.bytes
    → Unsettled (places_of images) images.target (record { images = record { zero = helds.Mounted zero; one = Some handed.held; target = images.target }; result = handed.result }) a c
unsettled_one laws images held o zero lost handed a b c are l e first says one_says_b broken m cause = λ respond.
    let at : option_map held_layout images.one ≡ Some (held_layout held) = ap (option_map held_layout) o in
    let kept : held_layout handed.held ≡ held_layout held = broken.layout_kept ∙ e in
    let second : Some (held_layout handed.held) ≡ option_map held_layout images.one = ap Some kept ∙ sym at in
    let after : Images = record { zero = helds.Mounted zero; one = Some handed.held; target = images.target } in
    lost_second laws a.geometry after (places_of images) are (held_layout held) at respond lost.fault handed.result images.target a b c refl broken.failed
    (λ i. record { first = l i; second = second i }) (ap Some broken.unmounted) first m cause
    (both_some (Says (known_mounted zero)) (HeldSays handed.held) (ImagesSay after) c.bytes (λ u p q. record { first = p; second = q })
    (first_still laws a.geometry images are held o zero l b.bytes c.bytes says m.calls.keeps) (lost_says held handed.held lost.fault b c kept broken.unmounted m one_says_b))

-- Reads that change no byte.

told_with : (R : List ℕ → List ℕ → Type 0) (P : List ℕ → Type 0) (x y : Option (List ℕ)) → ((u : List ℕ) → P u → R u u) → y ≡ x → IfSome x P → Told R x y
told_with R P None None f e p = tt
told_with R P None (Some v) f e p = absurd (cc e)
told_with R P (Some u) None f e p = absurd (cc e)
told_with R P (Some u) (Some v) f e p = let same : v ≡ u = cc e in subst (R u) (sym same) (f u p)

told_same : (R : List ℕ → List ℕ → Type 0) (x y : Option (List ℕ)) → ((u : List ℕ) → R u u) → y ≡ x → Told R x y
told_same R None None f e = tt
told_same R None (Some v) f e = absurd (cc e)
told_same R (Some u) None f e = absurd (cc e)
told_same R (Some u) (Some v) f e = let same : v ≡ u = cc e in subst (R u) (sym same) (f u)

-- a read of the primary slot is among an image's calls
read_calls : (l : Layout) (end : End) (a b : FlashState) → Calls (area_spot (slot_of l 0) ∷ []) end a b → Calls (mount_spots l) end a b
read_calls l end a b calls = Calls-wider (mount_spots l) (area_spot (slot_of l 0) ∷ []) end a b (Covers-left (area_spot (slot_of l 0) ∷ []) (upload_spots l)) calls

pub calls_at : (p : Places) (i : ℕ) (l : Layout) (end : End) (a b : FlashState) → place_at i p ≡ Some l → Calls (area_spot (slot_of l 0) ∷ []) end a b → Calls (spots_of p) end a b
calls_at p i l end a b at calls = Calls-wider (spots_of p) (mount_spots l) end a b (covers_at p i l at)
    (read_calls l end a b calls)

-- the response is this reply, and no steps
abbrev IsAlone : Places → (t : ℕ) → (AbstractDevice → Response) → Said → List ℕ → Type 0
IsAlone p t respond s u = (d : AbstractDevice) → ImagesStand p t d u → respond d ≡ reply_alone s

tells_alone : (p : Places) (t : ℕ) (respond : AbstractDevice → Response) (reply : Reply) (x : Option (List ℕ)) → IfSome x (IsAlone p t respond (said_of reply)) → ImagesTell p t respond x reply
tells_alone p t respond reply None f = tt
tells_alone p t respond reply (Some u) f = λ d stands. sym (ap (λ (r : Response). r.reply) (f d stands))

says_same : (images : Images) (x y : Option (List ℕ)) → y ≡ x → IfSome x (ImagesSay images) → IfSome y (ImagesSay images)
says_same images x y e s = subst (λ (z : Option (List ℕ)). IfSome z (ImagesSay images)) (sym e) s

pub quiet : (p : Places) (n t : ℕ) (respond : AbstractDevice → Response) (images : Images) (reply : Reply) (a b : FlashState) → places_of images ≡ p → images.target ≡ t → Calls (spots_of p) Went a b → b.bytes ≡ a.bytes
    → IfSome a.bytes (ImagesSay images) → IfSome a.bytes (IsAlone p t respond (said_of reply)) → ImagesAnswer p n t respond images (Ok reply) a b
quiet p n t respond images reply a b places target calls kept says alone = record {
  calls = calls;
  moves = subst (λ (u : ℕ). Told (ImagesMove p t u respond) a.bytes b.bytes) (sym target)
      (told_same (ImagesMove p t t respond) a.bytes b.bytes (λ u d stands. record { reached = d; part = record { front = []; rest = (respond d).steps; split = refl; reached = refl }; stands = stands }) kept);
  done = subst (λ (u : ℕ). Told (ImagesDo p t u respond) a.bytes b.bytes) (sym target)
      (told_with (ImagesDo p t t respond) (IsAlone p t respond (said_of reply)) a.bytes b.bytes (λ u f d stands. subst (λ (r : Response). ImagesStand p t (applied r.steps d) u) (sym (f d stands)) stands) kept alone);
  said = tells_alone p t respond reply a.bytes alone;
  says = says_same images a.bytes b.bytes kept says;
  places_kept = places;
  ages = λ j l at. told_same (AgesAtMost n (progress_of l)) a.bytes b.bytes (λ u. record { kept = omega arith; most = omega arith }) kept;
  pending = λ j l at. told_same (KeepsPending l) a.bytes b.bytes (λ u. record { kept = λ is. refl; still = λ is. refl }) kept;
  caused = tt;
  pays = pays_none p t (λ d. (respond d).steps) a b (IfSome-map (IsAlone p t respond (said_of reply)) (λ u. (d : AbstractDevice) → ImagesStand p t d u → (respond d).steps ≡ []) a.bytes (λ u f d stands. ap (λ (r : Response). r.steps) (f d stands)) alone);
  lost = tt;
}

call_caused : (p : Places) (n : ℕ) (fault : CallFault) (x : Option (List ℕ)) → ImagesCaused p n (of_call fault) x
call_caused p n (callfaults.Fault operation) x = tt
call_caused p n callfaults.Off x = tt

-- the fault of such a read fell in its image's regions
pub read_fell : (p : Places) (n i : ℕ) (l : Layout) (fault : CallFault) (a b : FlashState) → place_at i p ≡ Some l → Calls (area_spot (slot_of l 0) ∷ []) (fault_end fault) a b → FellIn p n i (of_call fault) a b
read_fell p n i l fault a b at calls = fell_by p n i l (Err (of_call fault)) a b at (subst (λ (e : End). Calls (mount_spots l) e a b) (slot_end fault) (read_calls l (fault_end fault) a b calls)) (slot_caused l n fault a.bytes)

pub read_fell_then : (p : Places) (n i : ℕ) (l : Layout) (fault : CallFault) (a b c : FlashState) → place_at i p ≡ Some l → Calls (spots_of p) Went a b → b.bytes ≡ a.bytes → Calls (area_spot (slot_of l 0) ∷ []) (fault_end fault) b c → FellIn p n i (of_call fault) a c
read_fell_then p n i l fault a b c at calls kept more = fell_read p n i (of_call fault) a b c calls.passes kept (read_fell p n i l fault b c at more)

pub quiet_broken : (p : Places) (n t : ℕ) (respond : AbstractDevice → Response) (images : Images) (i : ℕ) (fault : CallFault) (u : UploadFault) (a b : FlashState) → places_of images ≡ p → images.target ≡ t → u ≡ of_call fault → IsUnmountedAt i images → FellIn p n i (of_call fault) a b
    → Calls (spots_of p) (fault_end fault) a b → b.bytes ≡ a.bytes
    → IfSome a.bytes (ImagesSay images) → ImagesAnswer p n t respond images (Err u) a b
quiet_broken p n t respond images i fault u a b places target is un fell calls kept says =
    let here : ImagesAnswer p n t respond images (Err (of_call fault)) a b = record {
      calls = subst (λ (e : End). Calls (spots_of p) e a b) (slot_end fault) calls;
      moves = subst (λ (k : ℕ). Told (ImagesMove p t k respond) a.bytes b.bytes) (sym target)
          (told_same (ImagesMove p t t respond) a.bytes b.bytes (λ v d stands. record { reached = d; part = record { front = []; rest = (respond d).steps; split = refl; reached = refl }; stands = stands }) kept);
      done = tt;
      said = tt;
      says = says_same images a.bytes b.bytes kept says;
      places_kept = places;
      ages = λ j l at. told_same (AgesAtMost n (progress_of l)) a.bytes b.bytes (λ v. record { kept = omega arith; most = omega arith }) kept;
      pending = λ j l at. told_same (KeepsPending l) a.bytes b.bytes (λ v. record { kept = λ is. refl; still = λ is. refl }) kept;
      caused = call_caused p n fault a.bytes;
      pays = tt;
      lost = record { image = i; unmounted = un; fell = fell };
    } in
    subst (λ (f : UploadFault). ImagesAnswer p n t respond images (Err f) a b) (sym is) here

-- The lists.

alone_is : (p : Places) (t : ℕ) (first : SidePair) (u : List ℕ) → p.second ≡ None → IsPair p.first first u → IsAlone p t (lists_after []) (said.images first None) u
alone_is p t first u none pair = λ d stands.
    let one : first ≡ pair_of d.first = pair d.first (stands.sides 0) in
    let two : d.second ≡ None = no_side 1 p d u p.second d.second none (stands.sides 1) in
    λ i. reply_alone (said.images (sym one i) (option_map pair_of (two i)))

both_are : (p : Places) (t : ℕ) (l : Layout) (first second : SidePair) (u : List ℕ) → p.second ≡ Some l → IsPair p.first first u → IsPair l second u → IsAlone p t (lists_after []) (said.images first (Some second)) u
both_are p t l first second u at pair other = λ d stands.
    let one : first ≡ pair_of d.first = pair d.first (stands.sides 0) in
    let h = side_here p t 1 l d u at stands in
    let two : second ≡ pair_of h.side = other h.side h.stands in
    let there : option_map pair_of d.second ≡ Some second = ap (option_map pair_of) h.found ∙ ap Some (sym two) in
    λ i. reply_alone (said.images (sym one i) (there i))

pub list_alone_done : (m : Mounted) (t : ℕ) (first : SidePair) (a b : FlashState) → IfSome a.bytes (SettledSay (alone_settled m t)) → Calls (area_spot (slot_of (known_mounted m).layout 0) ∷ []) Went a b → b.bytes ≡ a.bytes
    → IfSome a.bytes (IsPair (known_mounted m).layout first)
    → ImagesAnswer (alone_places m) 0 t (lists_after []) (record { zero = helds.Mounted m; one = None; target = t }) (Ok (replied.Images first None)) a b
list_alone_done m t first a b says calls kept pair =
    let p = alone_places m in
    let images : Images = record { zero = helds.Mounted m; one = None; target = t } in
    quiet p 0 t (lists_after []) images (replied.Images first None) a b refl refl (calls_at p 0 p.first Went a b refl calls) kept
    (both_some (SettledSay (alone_settled m t)) (SettledSay (alone_settled m t)) (ImagesSay images) a.bytes (λ u s s2. record { first = s.first; second = tt }) says says)
    (both_some (IsPair p.first first) (IsPair p.first first) (IsAlone p t (lists_after []) (said.images first None)) a.bytes (λ u f f2. alone_is p t first u refl f) pair pair)

pub unknown_says : (m : Mounted) (held : Held) (bytes : List ℕ) → held ≡ unknown_at (known_mounted m).layout → Says (known_mounted m) bytes → HeldSays held bytes
unknown_says m held bytes e s = subst (λ (h : Held). HeldSays h bytes) (sym e) (readable_of (known_mounted m) bytes s)

pub unknown_is : (m : Mounted) (l : Layout) (held : Held) → held ≡ unknown_at l → l ≡ (known_mounted m).layout → held ≡ unknown_at (known_mounted m).layout
unknown_is m l held e f = e ∙ ap unknown_at f

pub unknown_unmounted : (l : Layout) (held : Held) → held ≡ unknown_at l → option_map is_mounted (Some held) ≡ Some false
unknown_unmounted l held e = ap (λ (h : Held). option_map is_mounted (Some h)) e

pub list_alone_broken : (m : Mounted) (t : ℕ) (l : Layout) (held : Held) (fault : CallFault) (u : UploadFault) (a b : FlashState) → IfSome a.bytes (SettledSay (alone_settled m t)) → Calls (area_spot (slot_of (known_mounted m).layout 0) ∷ []) (fault_end fault) a b → b.bytes ≡ a.bytes
    → held ≡ unknown_at l → l ≡ (known_mounted m).layout → u ≡ of_call fault
    → ImagesAnswer (alone_places m) 0 t (lists_after []) (record { zero = held; one = None; target = t }) (Err u) a b
list_alone_broken m t l held fault u a b says calls kept e f is =
    let p = alone_places m in
    let images : Images = record { zero = held; one = None; target = t } in
    let un = unknown_is m l held e f in
    quiet_broken p 0 t (lists_after []) images 0 fault u a b (λ i. record { first = held_layout (un i); second = None }) refl is (unknown_unmounted (known_mounted m).layout held un) (read_fell p 0 0 p.first fault a b refl calls) (calls_at p 0 p.first (fault_end fault) a b refl calls) kept
    (both_some (SettledSay (alone_settled m t)) (SettledSay (alone_settled m t)) (ImagesSay images) a.bytes (λ v s s2. record { first = unknown_says m held v un s.first; second = tt }) says says)

pub list_both_done : (m n : Mounted) (t : ℕ) (first second : SidePair) (a b c : FlashState) → IfSome a.bytes (SettledSay (both_settled m n t))
    → Calls (area_spot (slot_of (known_mounted m).layout 0) ∷ []) Went a b → b.bytes ≡ a.bytes → IfSome a.bytes (IsPair (known_mounted m).layout first)
    → Calls (area_spot (slot_of (known_mounted n).layout 0) ∷ []) Went b c → c.bytes ≡ b.bytes → IfSome b.bytes (IsPair (known_mounted n).layout second)
    → ImagesAnswer (both_places m n) 0 t (lists_after []) (record { zero = helds.Mounted m; one = Some (helds.Mounted n); target = t }) (Ok (replied.Images first (Some second))) a c
list_both_done m n t first second a b c says calls kept pair more still other =
    let p = both_places m n in
    let l = (known_mounted n).layout in
    let images : Images = record { zero = helds.Mounted m; one = Some (helds.Mounted n); target = t } in
    quiet p 0 t (lists_after []) images (replied.Images first (Some second)) a c refl refl (Calls-after (spots_of p) Went a b c (calls_at p 0 p.first Went a b refl calls) (calls_at p 1 l Went b c refl more)) (still ∙ kept)
    (both_some (SettledSay (both_settled m n t)) (SettledSay (both_settled m n t)) (ImagesSay images) a.bytes (λ u s s2. record { first = s.first; second = s.second }) says says)
    (both_some (IsPair p.first first) (IsPair l second) (IsAlone p t (lists_after []) (said.images first (Some second))) a.bytes (λ u f h. both_are p t l first second u refl f h) pair
    (subst (λ (x : Option (List ℕ)). IfSome x (IsPair l second)) kept other))

pub list_both_first : (m n : Mounted) (t : ℕ) (l : Layout) (held : Held) (fault : CallFault) (u : UploadFault) (a b : FlashState) → IfSome a.bytes (SettledSay (both_settled m n t)) → Calls (area_spot (slot_of (known_mounted m).layout 0) ∷ []) (fault_end fault) a b → b.bytes ≡ a.bytes
    → held ≡ unknown_at l → l ≡ (known_mounted m).layout → u ≡ of_call fault
    → ImagesAnswer (both_places m n) 0 t (lists_after []) (record { zero = held; one = Some (helds.Mounted n); target = t }) (Err u) a b
list_both_first m n t l held fault u a b says calls kept e f is =
    let p = both_places m n in
    let images : Images = record { zero = held; one = Some (helds.Mounted n); target = t } in
    let un = unknown_is m l held e f in
    quiet_broken p 0 t (lists_after []) images 0 fault u a b (λ i. record { first = held_layout (un i); second = Some (known_mounted n).layout }) refl is (unknown_unmounted (known_mounted m).layout held un) (read_fell p 0 0 p.first fault a b refl calls) (calls_at p 0 p.first (fault_end fault) a b refl calls) kept
    (both_some (SettledSay (both_settled m n t)) (SettledSay (both_settled m n t)) (ImagesSay images) a.bytes (λ v s s2. record { first = unknown_says m held v un s.first; second = s.second }) says says)

pub list_both_second : (m n : Mounted) (t : ℕ) (l : Layout) (held : Held) (fault : CallFault) (u : UploadFault) (a b c : FlashState) → IfSome a.bytes (SettledSay (both_settled m n t)) → Calls (area_spot (slot_of (known_mounted m).layout 0) ∷ []) Went a b → b.bytes ≡ a.bytes
    → Calls (area_spot (slot_of (known_mounted n).layout 0) ∷ []) (fault_end fault) b c → c.bytes ≡ b.bytes → held ≡ unknown_at l → l ≡ (known_mounted n).layout → u ≡ of_call fault
    → ImagesAnswer (both_places m n) 0 t (lists_after []) (record { zero = helds.Mounted m; one = Some held; target = t }) (Err u) a c
list_both_second m n t l held fault u a b c says calls kept more still e f is =
    let p = both_places m n in
    let images : Images = record { zero = helds.Mounted m; one = Some held; target = t } in
    let un = unknown_is n l held e f in
    quiet_broken p 0 t (lists_after []) images 1 fault u a c (λ i. record { first = (known_mounted m).layout; second = Some (held_layout (un i)) }) refl is (unknown_unmounted (known_mounted n).layout held un)
    (read_fell_then p 0 1 (known_mounted n).layout fault a b c refl (calls_at p 0 p.first Went a b refl calls) kept more)
    (Calls-after (spots_of p) (fault_end fault) a b c (calls_at p 0 p.first Went a b refl calls) (calls_at p 1 (known_mounted n).layout (fault_end fault) b c refl more)) (still ∙ kept)
    (both_some (SettledSay (both_settled m n t)) (SettledSay (both_settled m n t)) (ImagesSay images) a.bytes (λ v s s2. record { first = s.first; second = unknown_says n held v un s.second }) says says)

-- behind the mounting of all
pub settled_then : Laws → (p q : Places) (t u n : ℕ) (respond : AbstractDevice → Response) (r : Replied) (a b c : FlashState) → n ≤ 3 → q ≡ p → u ≡ t → Settles p t a b → ImagesAnswer q n u respond r.images r.result b c
    → ImagesAnswer p 5 t (λ d. settling d respond) r.images r.result a c
settled_then laws p q t u n respond r a b c le e f settles answer =
    let here : ImagesAnswer p n t respond r.images r.result b c =
    subst (λ (k : ℕ). ImagesAnswer p n k respond r.images r.result b c) f (subst (λ (x : Places). ImagesAnswer x n u respond r.images r.result b c) e answer) in
    after_settling laws p n t respond r.images r.result a b c le settles here

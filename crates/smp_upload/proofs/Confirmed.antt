-- The image that runs is confirmed.
use Rattle.std.proofs.Common.{◌≡◌, ◌⊎◌, inl, inr, ℕ, ◌+◌, ◌-◌, ◌*◌, ◌≤◌, Bool, true, false, Option, Some, None, List, [], ◌∷◌, refl, sym, ◌∙◌, subst, arith}
use Rattle.std.specs.Prelude.{IfSome}
use Rattle.smp_flash.specs.Area.{spot, Clear, Keeps, Told}
use Rattle.smp_flash.specs.Calls.{Calls, Smaller}
use Rattle.smp_flash.specs.Geometry.{slot_size, Regular}
use Rattle.smp_flash.specs.Layout.{geometry_of, slot_of, progress_of, scratch_of, area_spot}
use Rattle.smp_flash.specs.State.{FlashState, End}
use Rattle.smp_flash.specs.declared.layout.Area.{Area}
use Rattle.smp_flash.specs.declared.layout.Layout.{Layout}
use Rattle.smp_flash.proofs.Passing.{Calls-wider, Covers-within}
use Rattle.smp_flash.proofs.Sizes.{regular}
use Rattle.smp_flash.proofs.Telling.{Told-with, Told-map}
use Rattle.smp_gate.specs.Newest.{AgesAtMost}
use Rattle.smp_model.specs.declared.device.Side.{Side}
use Rattle.smp_model.specs.Sides.{Confirm}
use Rattle.smp_slot.specs.Slots.{last_page}
use Rattle.smp_upload.specs.Bytes.{SideStandsAs, SideStands, SideShows, confirmed_in, record_of}
use Rattle.smp_upload.specs.Counting.{Pays, AimsAtSlot}
use Rattle.smp_upload.specs.Moves.{Reached, Moves, KeepsPending, Moved, one_step}
use Rattle.smp_upload.specs.Primary.{Confirms, SaysOn}
use Rattle.smp_upload.specs.States.{Says}
use Rattle.smp_upload.proofs.Apartness.{active_kept, pending_by, clean_by, ages_clear}
use Rattle.smp_upload.proofs.Composing.{part_none, part_whole}
use Rattle.smp_upload.proofs.Frames.{record_kept, accepts_kept, progress_kept, lawful, slot_large, ProgressLasts}
use Rattle.smp_upload.proofs.Sides.{OneSide, says_shows}

-- the slot's last page
abbrev pub flag_spots : Layout → List (ℕ × ℕ)
flag_spots layout = spot (last_page (slot_of layout 0) (geometry_of layout)) (geometry_of layout).page

-- what lies before it or behind the slot
flag_clear : (layout : Layout) (p n : ℕ) → (p + n ≤ (slot_of layout 0).at + (slot_size (geometry_of layout) - (geometry_of layout).page)) ⊎ ((slot_of layout 0).at + slot_size (geometry_of layout) ≤ p) → Clear (flag_spots layout) p n
flag_clear layout p n either =
    let r : Regular (geometry_of layout) = regular (geometry_of layout) layout.lawful in
    let least : 4 * (geometry_of layout).page ≤ slot_size (geometry_of layout) = r.slot_least in
    elim either [
      | inl before ↦ (inl (omega arith), tt)
      | inr behind ↦ (inr (omega arith), tt)
    ]

flag_active : (layout : Layout) → Clear (flag_spots layout) (slot_of layout 0).at (slot_size (geometry_of layout) - (geometry_of layout).page)
flag_active layout = flag_clear layout (slot_of layout 0).at (slot_size (geometry_of layout) - (geometry_of layout).page) (inl (omega arith))

flag_secondary : (layout : Layout) → Clear (flag_spots layout) (slot_of layout 1).at (slot_of layout 1).length
flag_secondary layout = flag_clear layout (slot_of layout 1).at (slot_size (geometry_of layout)) (inr (omega arith))

flag_first : (layout : Layout) → Clear (flag_spots layout) (progress_of layout).first.at 4096
flag_first layout = flag_clear layout (progress_of layout).first.at 4096 (inr (omega arith))

flag_second : (layout : Layout) → Clear (flag_spots layout) (progress_of layout).second.at 4096
flag_second layout = flag_clear layout (progress_of layout).second.at 4096 (inr (omega arith))

flag_scratch : (layout : Layout) → Clear (flag_spots layout) (scratch_of layout).at (scratch_of layout).length
flag_scratch layout = flag_clear layout (scratch_of layout).at (geometry_of layout).page (inr (omega arith))

-- the side, confirmed or not
as_confirmed : (layout : Layout) (rescue : Bool) (side : Side) (b : Bool) (old new : List ℕ) → Keeps (flag_spots layout) old new → confirmed_in layout new ≡ b → SideStandsAs layout rescue side old → SideStandsAs layout rescue (record side { confirmed = b }) new
as_confirmed layout rescue side b old new k e h = record {
  active = h.active ∙ sym (active_kept layout (flag_spots layout) old new (flag_active layout) k);
  runs = h.runs;
  confirmed = sym e;
  entry = record_kept layout (record_of rescue side.upload) (flag_spots layout) old new (flag_first layout) (flag_second layout) k h.entry;
  accepts = accepts_kept layout rescue side.upload (flag_spots layout) old new (lawful layout (record_of rescue side.upload) old h.entry) (flag_secondary layout) (flag_scratch layout) k h.accepts;
  pending = h.pending ∙ sym (pending_by layout (flag_spots layout) old new (flag_secondary layout) k);
  good = h.good;
}

confirm_moves : (layout : Layout) (old new : List ℕ) → confirmed_in layout old ≡ false → Keeps (flag_spots layout) old new → Moves layout (one_step Confirm) old new
confirm_moves layout old new was k = record { moves = λ side st. go side st (confirmed_in layout new) refl }
  where
    go : (side : Side) → SideStands layout side old → (b : Bool) → confirmed_in layout new ≡ b → Reached layout side (Confirm ∷ []) new
    go side st false e = record {
      reached = side;
      part = part_none side (Confirm ∷ []);
      stands = record {
        rescue = st.rescue;
        stands = subst (λ (c : Bool). SideStandsAs layout st.rescue (record side { confirmed = c }) new) (sym (st.stands.confirmed ∙ was)) (as_confirmed layout st.rescue side false old new k e st.stands);
      };
    }
    go side st true e = record {
      reached = record side { confirmed = true };
      part = part_whole side (Confirm ∷ []);
      stands = record { rescue = st.rescue; stands = as_confirmed layout st.rescue side true old new k e st.stands };
    }

confirmed_shows : (layout : Layout) (side : Side) (b : Bool) (old new : List ℕ) → Keeps (flag_spots layout) old new → confirmed_in layout new ≡ b → SideShows layout side old → SideShows layout (record side { confirmed = b }) new
confirmed_shows layout side b old new k e h = record {
  stands = as_confirmed layout false side b old new k e h.stands;
  settled = h.settled;
  clean = clean_by layout side.upload (flag_spots layout) old new (lawful layout (record_of false side.upload) old h.stands.entry) (flag_secondary layout) k h.clean;
}

confirm_does : OneSide → (layout : Layout) (old new : List ℕ) → Keeps (flag_spots layout) old new → confirmed_in layout new ≡ true → Confirms layout old new
confirm_does one layout old new k e known is says = record {
  does = λ side st.
      let s : Says (record known { layout = layout }) old = subst (λ (l : Layout). Says (record known { layout = l }) old) is says in
      confirmed_shows layout side true old new k e (says_shows one (record known { layout = layout }) side old s st);
}

confirm_says : ProgressLasts → (layout : Layout) (old new : List ℕ) → Keeps (flag_spots layout) old new → SaysOn layout old new
confirm_says lasts layout old new k known is says =
    let place : known.entry.layout ≡ layout = says.place ∙ is in
    record {
      side = record says.side { confirmed = confirmed_in layout new };
      shows = subst (λ (l : Layout). SideShows l (record says.side { confirmed = confirmed_in layout new }) new) (sym is)
          (confirmed_shows layout says.side (confirmed_in layout new) old new k refl (subst (λ (l : Layout). SideShows l says.side old) is says.shows));
      knows = record { upload = says.knows.upload; pending = says.knows.pending; image = says.knows.image; sums = says.knows.sums };
      record_says = progress_kept lasts layout known.entry (flag_spots layout) old new place (flag_first layout) (flag_second layout) k says.record_says;
      place = says.place;
    }

confirm_pending : (layout : Layout) (old new : List ℕ) → Keeps (flag_spots layout) old new → KeepsPending layout old new
confirm_pending layout old new k = record {
  kept = λ is. k.apart (slot_of layout 1).at (slot_of layout 1).length (flag_secondary layout);
  still = λ is. pending_by layout (flag_spots layout) old new (flag_secondary layout) k;
}

flag_Calls : (layout : Layout) (end : End) (a b : FlashState) → Calls (flag_spots layout) end a b → Calls (area_spot (slot_of layout 0) ∷ []) end a b
flag_Calls layout end a b calls =
    let s = slot_size (geometry_of layout) in
    let at = (slot_of layout 0).at in
    let page = (geometry_of layout).page in
    let r : Regular (geometry_of layout) = regular (geometry_of layout) layout.lawful in
    let least : 4 * page ≤ s = r.slot_least in
    Calls-wider (area_spot (slot_of layout 0) ∷ []) (flag_spots layout) end a b (Covers-within (at + s - page) page at s (omega arith) (omega arith)) calls

pub confirm_moved : (layout : Layout) (end : End) (s t : FlashState) → IfSome s.bytes (λ held. confirmed_in layout held ≡ false) → Calls (flag_spots layout) end s t → Moved layout (area_spot (slot_of layout 0) ∷ []) 0 (one_step Confirm) end s t
confirm_moved layout end s t was calls = record {
  calls = flag_Calls layout end s t calls;
  moves = Told-with (λ held. confirmed_in layout held ≡ false) (Keeps (flag_spots layout)) (Moves layout (one_step Confirm)) s.bytes t.bytes (λ u v w k. confirm_moves layout u v w k) was calls.keeps;
  ages = Told-map (Keeps (flag_spots layout)) (AgesAtMost 0 (progress_of layout)) s.bytes t.bytes (λ u v k. ages_clear layout 0 (flag_spots layout) u v (flag_first layout) (flag_second layout) k) calls.keeps;
  pending = Told-map (Keeps (flag_spots layout)) (KeepsPending layout) s.bytes t.bytes (confirm_pending layout) calls.keeps;
}

pub confirm_told : OneSide → (layout : Layout) (x y : Option (List ℕ)) → Told (Keeps (flag_spots layout)) x y → IfSome y (λ held. confirmed_in layout held ≡ true) → Told (Confirms layout) x y
confirm_told one layout None None k is = tt
confirm_told one layout None (Some v) k is = absurd k
confirm_told one layout (Some u) None k is = absurd k
confirm_told one layout (Some u) (Some v) k is = confirm_does one layout u v k is

pub confirm_said : ProgressLasts → (layout : Layout) (x y : Option (List ℕ)) → Told (Keeps (flag_spots layout)) x y → Told (SaysOn layout) x y
confirm_said lasts layout x y k = Told-map (Keeps (flag_spots layout)) (SaysOn layout) x y (confirm_says lasts layout) k

pub confirm_pays : (layout : Layout) (s t : FlashState) → (AimsAtSlot layout 0 s.aim → Smaller s.patience t.patience) → Pays layout (one_step Confirm) s t
confirm_pays layout s t f = record { pays = λ side st is. elim is [ inl now ↦ f now | inr none ↦ absurd none ] }

-- the byte of the flag lies in the slot
pub byte_Calls : (layout : Layout) (slot : Area) (end : End) (a b : FlashState) → slot ≡ slot_of layout 0 → Calls (spot (slot.at + slot.length - 24) 1) end a b → Calls (area_spot (slot_of layout 0) ∷ []) end a b
byte_Calls layout slot end a b e calls =
    let s = slot_size (geometry_of layout) in
    let at = (slot_of layout 0).at in
    let large : 24 ≤ s = slot_large layout in
    Calls-wider (area_spot (slot_of layout 0) ∷ []) (spot (at + s - 24) 1) end a b (Covers-within (at + s - 24) 1 at s (omega arith) (omega arith)) (subst (λ (x : Area). Calls (spot (x.at + x.length - 24) 1) end a b) e calls)

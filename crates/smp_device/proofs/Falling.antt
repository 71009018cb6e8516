-- In whose regions a fault fell.
use Rattle.std.proofs.Common.{◌≡◌, ℕ, ◌+◌, ◌≤◌, Option, Some, None, List, Result, Ok, Err, refl, sym, ◌∙◌, ap, subst, arith}
use Rattle.std.specs.Prelude.{IfErr, IfSome, option_map}
use Rattle.smp_flash.specs.Area.{Told}
use Rattle.smp_flash.specs.Calls.{Calls, Goes}
use Rattle.smp_flash.specs.Layout.{progress_of}
use Rattle.smp_flash.specs.State.{FlashState}
use Rattle.smp_flash.specs.declared.layout.Layout.{Layout}
use Rattle.smp_flash.proofs.Passing.{Spares-same}
use Rattle.smp_gate.specs.Newest.{AgesAtMost, newest_generation}
use Rattle.smp_model.specs.declared.reply.Reply.{Reply}
use Rattle.smp_progress.specs.State.{CanTake}
use Rattle.smp_upload.specs.Moves.{mount_spots}
use Rattle.smp_upload.specs.declared.states.UploadFault.{UploadFault}
use Rattle.smp_upload.specs.declared.states.UploadFault.TheVariants as faults
use Rattle.smp_side.specs.Held.{Caused, ResultCaused, is_mounted, is_ok, result_end}
use Rattle.smp_side.specs.declared.held.Held.{Held}
use Rattle.smp_device.specs.Answers.{LostOne}
use Rattle.smp_device.specs.Mounts.{FellIn, held_at}
use Rattle.smp_device.specs.Places.{Places, AtEach, place_at}
use Rattle.smp_device.specs.declared.images.Images.{Images}
use Rattle.smp_device.specs.declared.images.Replied.{Replied}
use Rattle.smp_device.proofs.Lifting.{caused_more}

pub fell_by : (p : Places) (n i : ℕ) (l : Layout) (r : Result Reply UploadFault) (a b : FlashState) → place_at i p ≡ Some l → Calls (mount_spots l) (result_end r) a b → ResultCaused l n r a.bytes → IfErr r (λ fault. FellIn p n i fault a b)
fell_by p n i l (Ok reply) a b at calls c = tt
fell_by p n i l (Err fault) a b at calls c = record { layout = l; place = at; spared = λ s. (calls.spared s).troubles; caused = c }

pub fell_at : (p : Places) (image i : ℕ) (r : Result Reply UploadFault) (a b : FlashState) → image ≡ i → IfErr r (λ fault. FellIn p 5 i fault a b) → IfErr r (λ fault. FellIn p 5 image fault a b)
fell_at p image i r a b e f = subst (λ (n : ℕ). IfErr r (λ fault. FellIn p 5 n fault a b)) (sym e) f

pub fell_nowhere : (p : Places) (image : ℕ) (images : Images) (reply : Reply) (r : Replied) (a b : FlashState) → r ≡ record { images = images; result = Ok reply } → IfErr r.result (λ fault. FellIn p 5 image fault a b)
fell_nowhere p image images reply r a b e = subst (λ (x : Replied). IfErr x.result (λ fault. FellIn p 5 image fault a b)) (sym e) tt

-- Behind calls that went through.

pub told_none : (R : List ℕ → List ℕ → Type 0) (x y : Option (List ℕ)) → Told R x y → y ≡ None → x ≡ None
told_none R None y f e = refl
told_none R (Some u) None f e = absurd f
told_none R (Some u) (Some v) f e = absurd (cc e)

pub worn_before : (l : Layout) (m n : ℕ) (x y : Option (List ℕ)) → Told (AgesAtMost m (progress_of l)) x y → IfSome y (λ held. CanTake (newest_generation (progress_of l) held) n → ⊥)
    → IfSome x (λ held. CanTake (newest_generation (progress_of l) held) (m + n) → ⊥)
worn_before l m n None y f w = tt
worn_before l m n (Some u) None f w = absurd f
worn_before l m n (Some u) (Some v) f w = λ take. let most = f.most in w (omega arith)

caused_behind : (l : Layout) (m n : ℕ) (fault : UploadFault) (x y : Option (List ℕ)) → Told (AgesAtMost m (progress_of l)) x y → Caused l n fault y → Caused l (m + n) fault x
caused_behind l m n faults.Unformatted x y f c = told_none (AgesAtMost m (progress_of l)) x y f c
caused_behind l m n faults.Worn x y f c = worn_before l m n x y f c
caused_behind l m n (faults.Fault operation) x y f c = tt
caused_behind l m n faults.Off x y f c = tt

pub fell_behind : (p : Places) (m n i : ℕ) (fault : UploadFault) (a b c : FlashState) → Goes a b → AtEach (λ l. Told (AgesAtMost m (progress_of l)) a.bytes b.bytes) p → FellIn p n i fault b c → FellIn p (m + n) i fault a c
fell_behind p m n i fault a b c goes ages f = record {
  layout = f.layout;
  place = f.place;
  spared = λ s. f.spared (Spares-same (mount_spots f.layout) a b goes.geometry goes.aim s) ∙ goes.troubles;
  caused = caused_behind f.layout m n fault a.bytes b.bytes (ages i f.layout f.place) f.caused;
}

pub fell_read : (p : Places) (n i : ℕ) (fault : UploadFault) (a b c : FlashState) → Goes a b → b.bytes ≡ a.bytes → FellIn p n i fault b c → FellIn p n i fault a c
fell_read p n i fault a b c goes kept f = record {
  layout = f.layout;
  place = f.place;
  spared = λ s. f.spared (Spares-same (mount_spots f.layout) a b goes.geometry goes.aim s) ∙ goes.troubles;
  caused = subst (λ (x : Option (List ℕ)). Caused f.layout n fault x) kept f.caused;
}

fell_more : (p : Places) (m n i : ℕ) (fault : UploadFault) (a b : FlashState) → m ≤ n → FellIn p m i fault a b → FellIn p n i fault a b
fell_more p m n i fault a b le f = record { layout = f.layout; place = f.place; spared = f.spared; caused = caused_more f.layout m n fault a.bytes le f.caused }

-- One image was lost.

-- where its side is mounted exactly where the request was answered
pub lost_at : (p : Places) (n i : ℕ) (images : Images) (held : Held) (r : Result Reply UploadFault) (a b : FlashState) → held_at i images ≡ Some held → is_mounted held ≡ is_ok r → IfErr r (λ fault. FellIn p n i fault a b)
    → IfErr r (λ fault. LostOne p n images fault a b)
lost_at p n i images held (Ok reply) a b at m f = tt
lost_at p n i images held (Err fault) a b at m f = record { image = i; unmounted = ap (option_map is_mounted) at ∙ ap Some m; fell = f }

pub lost_read : (p : Places) (n : ℕ) (images : Images) (r : Result Reply UploadFault) (a b c : FlashState) → Goes a b → b.bytes ≡ a.bytes → IfErr r (λ fault. LostOne p n images fault b c) → IfErr r (λ fault. LostOne p n images fault a c)
lost_read p n images (Ok reply) a b c goes kept f = tt
lost_read p n images (Err fault) a b c goes kept f = record { image = f.image; unmounted = f.unmounted; fell = fell_read p n f.image fault a b c goes kept f.fell }

pub lost_behind : (p : Places) (m n k : ℕ) (images : Images) (r : Result Reply UploadFault) (a b c : FlashState) → m + n ≤ k → Goes a b → AtEach (λ l. Told (AgesAtMost m (progress_of l)) a.bytes b.bytes) p
    → IfErr r (λ fault. LostOne p n images fault b c) → IfErr r (λ fault. LostOne p k images fault a c)
lost_behind p m n k images (Ok reply) a b c le goes ages f = tt
lost_behind p m n k images (Err fault) a b c le goes ages f = record {
  image = f.image;
  unmounted = f.unmounted;
  fell = fell_more p (m + n) k f.image fault a c le (fell_behind p m n f.image fault a b c goes ages f.fell);
}

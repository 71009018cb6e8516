-- What an erase leaves of the secondary slot.
use Rattle.std.proofs.Common.{◌≡◌, ℕ, true, false, ◌==◌, Option, Some, None, List, Result, Err, refl, sym, ◌∙◌, subst, arith}
use Rattle.std.proofs.lemmas.Bool.Decides.{nat_tests}
use Rattle.smp_flash.specs.declared.layout.Layout.{Layout}
use Rattle.smp_model.specs.declared.reply.Reply.{Reply}
use Rattle.smp_upload.specs.declared.states.UploadFault.{UploadFault}
use Rattle.smp_model.specs.Due.{image_for}
use Rattle.smp_model.specs.Meant as meant
use Rattle.smp_device.specs.Places.{Places, place_at}
use Rattle.smp_device.specs.Requests.{Erases, ErasesAt, ErasesFor}
use Rattle.smp_device.specs.declared.images.SideRequest.{SideRequest}
use Rattle.smp_device.specs.declared.images.SideRequest.TheVariants as asks
use Rattle.smp_device.proofs.Mounting.{erase_image}
use Rattle.smp_device.proofs.Parting.{some_is}

pub erases_as : (layout : Layout) (request known : SideRequest) (r : Result Reply UploadFault) (x : Option (List ℕ)) → request ≡ known → Erases layout known r x → Erases layout request r x
erases_as layout request known r x e f = subst (λ (q : SideRequest). Erases layout q r x) (sym e) f

-- a request that was broken off
broken_erases : (layout : Layout) (request : SideRequest) (fault : UploadFault) (x : Option (List ℕ)) → Erases layout request (Err fault) x
broken_erases layout (asks.Start a bytes) fault x = tt
broken_erases layout (asks.Part off tag bytes) fault x = tt
broken_erases layout asks.Erase fault x = tt

pub erases_failed : (layout : Layout) (request : SideRequest) (fault : UploadFault) (r : Result Reply UploadFault) (x : Option (List ℕ)) → r ≡ Err fault → Erases layout request r x
erases_failed layout request fault r x e = subst (λ (q : Result Reply UploadFault). Erases layout request q x) (sym e) (broken_erases layout request fault x)

pub erases_at : (p : Places) (i : ℕ) (l layout : Layout) (request : SideRequest) (r : Result Reply UploadFault) (x : Option (List ℕ)) → place_at i p ≡ Some l → layout ≡ l → Erases layout request r x → ErasesAt p i request r x
erases_at p i l layout request r x at e f = λ m there. subst (λ (k : Layout). Erases k request r x) (e ∙ some_is l m (sym at ∙ there)) f

pub erases_nowhere : (p : Places) (i : ℕ) (request : SideRequest) (r : Result Reply UploadFault) (x : Option (List ℕ)) → place_at i p ≡ None → ErasesAt p i request r x
erases_nowhere p i request r x none = λ m there. absurd (cc (sym none ∙ there))

pub erases_of : (p : Places) (image i : ℕ) (request : SideRequest) (r : Result Reply UploadFault) (x : Option (List ℕ)) → image ≡ i → ErasesAt p i request r x → ErasesAt p image request r x
erases_of p image i request r x e f = subst (λ (n : ℕ). ErasesAt p n request r x) (sym e) f

pub erase_zero_erases : (p : Places) (t slot : ℕ) (r : Result Reply UploadFault) (x : Option (List ℕ)) → slot ≡ 1 → ErasesAt p 0 asks.Erase r x → ErasesFor p (image_for t (meant.erase slot)) r x
erase_zero_erases p t slot r x e f = subst (λ (o : Option ℕ). ErasesFor p o r x) (sym (erase_image t slot true (slot == 3) (grind (arith, nat_tests, e)) refl)) f

pub erase_one_erases : (p : Places) (t slot : ℕ) (r : Result Reply UploadFault) (x : Option (List ℕ)) → slot ≡ 3 → ErasesAt p 1 asks.Erase r x → ErasesFor p (image_for t (meant.erase slot)) r x
erase_one_erases p t slot r x e f = subst (λ (o : Option ℕ). ErasesFor p o r x) (sym (erase_image t slot false true (grind (arith, nat_tests, e)) (grind (arith, nat_tests, e)))) f

pub erase_other_erases : (p : Places) (t slot : ℕ) (r : Result Reply UploadFault) (x : Option (List ℕ)) → (slot ≡ 1 → ⊥) → (slot ≡ 3 → ⊥) → ErasesFor p (image_for t (meant.erase slot)) r x
erase_other_erases p t slot r x one three = subst (λ (o : Option ℕ). ErasesFor p o r x) (sym (erase_image t slot false false (grind (arith, nat_tests, one)) (grind (arith, nat_tests, three)))) tt

-- Why blocks that were read are no image.
use Rattle.std.proofs.Common.{◌≡◌, ◌≢◌, ℕ, ◌≤◌, Bool, List, length, take, Option, Some, None, IfSome, Err, refl, sym, ap, ◌∙◌, arith}
use Rattle.spr_io.specs.Content.{Content, IsShaped}
use Rattle.page_ground.specs.Pages.{are_zeros}
use Rattle.disk_format.specs.declared.shape.ImageShape.{ImageShape}
use Rattle.disk_format.specs.declared.why.BadImage.{BadImage}
use Rattle.disk_format.specs.declared.why.ImageWhy.{ImageWhy}
use Rattle.disk_format.specs.declared.why.ImageWhy.TheVariants.{Memory}
use Rattle.disk_format.specs.Shape.{blocks_of}
use Rattle.disk_format.specs.VersionOne.{image_in}
use Rattle.disk_format.specs.Image.{front_of}
use Rattle.disk_format.specs.Why.{Refuses}
use Rattle.disk_format.proofs.MapLaws.{sizes-all}
use Rattle.disk_format.proofs.ImageLaws.{front-parts}
use Rattle.disk_layer.specs.Disk.{is_blank}
use Rattle.disk_layer.specs.Calls.{Stored, IsRefusal}
use Rattle.disk_layer.specs.Why.{open_why}

-- block 0 stands first
pub read-blank : (shape : ImageShape) (front : List ℕ) (content : Option Content) (blank : Bool) → IsShaped shape.page_size (blocks_of shape) content → IfSome content (λ c. front ≡ front_of shape c.blocks)
    → blank ≡ are_zeros (take shape.page_size front) → IfSome content (λ c. blank ≡ is_blank c.blocks)
read-blank shape front None blank h e is = tt
read-blank shape front (Some c) blank h e is =
    let room : 1 ≤ length c.blocks = omega (arith, h.blocks) in
    let f = front-parts shape c.blocks (sizes-all shape.page_size c.blocks h.sizes) room in
    is ∙ ap are_zeros (ap (λ l. take shape.page_size l) e ∙ f.block)

told-bad : (shape : ImageShape) (front : List ℕ) (content : Option Content) (bad : BadImage) → IfSome content (λ c. front ≡ front_of shape c.blocks) → image_in shape front ≡ Err bad
    → IfSome content (λ c. image_in shape (front_of shape c.blocks) ≡ Err bad)
told-bad shape front None bad e is = tt
told-bad shape front (Some c) bad e is = ap (λ l. image_in shape l) (sym e) ∙ is

-- the first reason, or that memory ran out
pub read-refusal : (before : Stored) (faults : ℕ) (front : List ℕ) (bad : BadImage) (blank : Bool) → Refuses bad (image_in before.shape front) → faults ≡ before.faults
    → IfSome before.content (λ c. front ≡ front_of before.shape c.blocks) → IfSome before.content (λ c. blank ≡ is_blank c.blocks) → IsRefusal before faults (open_why bad blank bad.why)
read-refusal before faults front bad blank refuses calm e zeros = by bad.why refl
  where
    by : (why : ImageWhy) → bad.why ≡ why → IsRefusal before faults (open_why bad blank why)
    by Memory is = calm
    by why is =
        let other : bad.why ≢ Memory = λ m. cc in
        (other, told-bad before.shape front before.content bad e (refuses.fault other), calm, zeros)

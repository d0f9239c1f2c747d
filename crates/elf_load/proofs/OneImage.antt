-- A file loads to one image.
use Rattle.std.proofs.Common.{◌≡◌, ℕ, ◌+◌, ◌*◌, ◌<◌, List, length, slice_index, Option, Some, None, IfSome, is_some, refl, sym, ◌∙◌, arith}
use Rattle.std.specs.Cmp.{nat_cmp_total}
use Rattle.std.specs.FinMap.{get, same_map, nat_cmp-IsAntisymmetric}
use Rattle.std.proofs.lemmas.Bool.{false≢true}
use Rattle.std.proofs.lemmas.Grind.{same_number_lists}
use Rattle.elf_load.specs.Images.{Image, Loads, areas, page_flags, byte_at}
use Rattle.elf_load.specs.declared.page.Page.{Page}

same_page : (flags : ℕ) (byte : ℕ → ℕ) (f g : Option Page) → is_some f ≡ is_some g
    → IfSome f (λ p. p.flags ≡ flags) → IfSome g (λ p. p.flags ≡ flags)
    → IfSome f (λ p. length p.bytes ≡ 256) → IfSome g (λ p. length p.bytes ≡ 256)
    → ((i : ℕ) → i < 256 → IfSome f (λ p. slice_index p.bytes i ≡ byte i)) → ((i : ℕ) → i < 256 → IfSome g (λ p. slice_index p.bytes i ≡ byte i))
    → f ≡ g
same_page flags byte None None s a b c d x y = refl
same_page flags byte None (Some q) s a b c d x y = absurd (false≢true s)
same_page flags byte (Some p) None s a b c d x y = absurd (false≢true (sym s))
same_page flags byte (Some p) (Some q) s a b c d x y =
    let same_flags : p.flags ≡ q.flags = a ∙ sym b in
    let same_bytes : p.bytes ≡ q.bytes = same_number_lists p.bytes q.bytes (c ∙ sym d) (λ k l. let inside : k < 256 = omega arith in x k inside ∙ sym (y k inside)) in
    λ i. Some (record { flags = same_flags i; bytes = same_bytes i })

pub one_image : (bytes : List ℕ) (one other : Image) → Loads bytes one → Loads bytes other → one ≡ other
one_image bytes one other h k =
    let same_entry : one.entry ≡ other.entry = h.entry ∙ sym k.entry in
    let same_pages : one.pages ≡ other.pages = same_map nat_cmp_total nat_cmp-IsAntisymmetric one.pages other.pages (λ q.
    same_page (page_flags (areas bytes) q) (λ i. byte_at bytes (areas bytes) (256 * q + i)) (get one.pages q) (get other.pages q)
    (h.mapped q ∙ sym (k.mapped q)) (h.flags q) (k.flags q) (h.size q) (k.size q) (h.content q) (k.content q)) in
    λ i. record { entry = same_entry i; pages = same_pages i }

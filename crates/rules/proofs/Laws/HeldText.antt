-- Laws of a text that holds a path or a prefix, and of a name: it passes the test that its bytes pass. Assumes nothing.
use Rattle.std.specs.Prelude.{◌≡◌, true, List, ℕ}
use Rattle.std.proofs.Common.{◌∙◌}
use Rattle.text.specs.Text.{is_name, is_path, is_prefix, to_text, holds, to_name, holds_name}
use Rattle.text.specs.TextLaws.{text_holds, name_holds, name_fits, path_fits, prefix_fits}

pub name_held : (s : List ℕ) → is_name s ≡ true → holds_name (to_name s) ≡ true
name_held s e = name_holds s (name_fits s e) ∙ e

pub path_held : (s : List ℕ) → is_path s ≡ true → holds is_path (to_text s) ≡ true
path_held s e = text_holds is_path s (path_fits s e) ∙ e

pub prefix_held : (s : List ℕ) → is_prefix s ≡ true → holds is_prefix (to_text s) ≡ true
prefix_held s e = text_holds is_prefix s (prefix_fits s e) ∙ e

use Rattle.std.proofs.Common.{sym}
use Rattle.tree_model.specs.Content.{content}
use Rattle.layout_model.specs.Layout.{tree_entries}
use Rattle.edit_content_laws.proofs.EditContentLemmas.{edit-effect, brought-length, edited-bytes}
use Rattle.edit_content_laws.proofs.contents.a_change_is_its_edit.Goals as goal

pub returns : goal.returns
returns c = record {
  tree = λ n edit tree changed change same. (edit-effect n edit tree changed change same).tree_is;
  within = λ n edit tree changed change same. (edit-effect n edit tree changed change same).within;
  payload = brought-length;
  content = λ n edit tree changed change at size same long.
      edited-bytes n edit tree changed change (content at size (tree_entries tree)) same long;
}

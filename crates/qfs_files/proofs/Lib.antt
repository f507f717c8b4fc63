mod EntryLaws
mod KeyTests
mod OpenLaws
mod PutLaws
mod RuleLaws
